-- Several workers, each with lines of its own.
use Rattle.std.specs.Prelude.{◌≡◌, ◌≤◌, ◌+◌, ◌*◌, ◌^◌, ℕ, List, [], ◌∷◌, length, map, slice_get, Some, None, false}
use Rattle.std.specs.Option.{option_map_or}
use Rattle.nor_script.specs.Answering.{lines_by}
use Rattle.nor_script.specs.declared.line.Line.{Line}
use Rattle.nor_driver.specs.Callers.{CallerView, DriverView, IsCallerOf, WentOn}
use Rattle.nor_race.specs.Laws.{AreCallers}
use Rattle.nor_race.specs.Noted.{told_of}
use Rattle.nor_race.specs.Ran.{Team, Works, Ran}
use Rattle.nor_race.specs.Tasks.{AreFor}
use Rattle.nor_race.specs.declared.task.Task.{Task}
use Rattle.nor_race.specs.declared.team.Racer.{Racer}

-- the caller that a driver was made with, of which nothing was split off yet
pub record IsFirst (driver : DriverView) (c : CallerView) : Type 0 where
  pub own : IsCallerOf driver c
  pub fresh : c.pass.seen ≡ []
  pub share : c.pass.share ≡ 2 ^ 20
  pub room : c.pass.room ≡ 2 ^ 62

module _ {W B : Type 0} where
  -- The racer has a number from 1 to 8, no caller yet, and tasks for the lines of that number.
  pub record CanStart (lines : List Line) (r : Racer W B) : Type 0 where
    pub least : 1 ≤ r.number
    pub most : r.number ≤ 8
    pub none : r.caller ≡ None
    pub few : length r.tasks.items ≤ 2 ^ 16
    pub fit : AreFor lines r.number r.tasks.items

  -- The racer's caller has made nothing yet; there are tasks for the lines of its own number, and room for two entries
  -- of each.
  pub record CanRace (lines : List Line) (driver : DriverView) (r : Racer W B) : Type 0 where
    pub who : CallerView
    pub is : r.caller ≡ Some who
    pub own : IsCallerOf driver who
    pub number : who.number ≡ r.number
    pub idle : who.erasing ≡ false
    pub fresh : who.pass.seen ≡ []
    pub room : 2 * length r.tasks.items + 2 ≤ who.pass.room
    pub fit : AreFor lines r.number r.tasks.items

  -- It has run its lines: its notes tell what its caller has made.
  pub record HasRaced (lines : List Line) (old new : Racer W B) : Type 0 where
    pub was : CallerView
    pub who : CallerView
    pub was_is : old.caller ≡ Some was
    pub who_is : new.caller ≡ Some who
    pub number : new.number ≡ old.number
    pub idle : who.erasing ≡ false
    pub works : Works lines (lines_by was.number lines) (told_of new.tasks.items) who.pass
    pub went : WentOn (length (told_of new.tasks.items)) was.pass who.pass
    pub few : length (told_of new.tasks.items) ≤ 2 * length old.tasks.items

  -- each of them has
  pub record EachRaced (lines : List Line) (old new : List (Racer W B)) : Type 0 where
    pub count : length new ≡ length old
    pub each : (k : ℕ) (x y : Racer W B) → slice_get old k ≡ Some x → slice_get new k ≡ Some y → HasRaced lines x y

  -- what a racer's tasks have noted, under its number
  abbrev pub team_of : Racer W B → Team
  team_of r = record { caller = r.number; notes = told_of r.tasks.items }

  abbrev pub teams_of : List (Racer W B) → List Team
  teams_of racers = map team_of racers

  -- the racer's caller has run what its notes tell
  pub record CanFold (lines : List Line) (driver : DriverView) (r : Racer W B) : Type 0 where
    pub who : CallerView
    pub is : r.caller ≡ Some who
    pub own : IsCallerOf driver who
    pub idle : who.erasing ≡ false
    pub ran : Ran lines (team_of r ∷ []) who.pass

  -- the numbers of the racers, and their tasks
  abbrev pub numbers_of : List (Racer W B) → List ℕ
  numbers_of racers = map (λ r. r.number) racers

  abbrev pub tasks_of : List (Racer W B) → List (List Task)
  tasks_of racers = map (λ r. r.tasks.items) racers

  abbrev pub task_count : List (Racer W B) → ℕ
  task_count [] = 0
  task_count (r ∷ racers) = length r.tasks.items + task_count racers

  -- what the callers that weren't handed over have of the shares
  abbrev pub share_of : Racer W B → ℕ
  share_of r = option_map_or (λ (c : CallerView). c.pass.share) r.caller 0

  abbrev pub total_share : List (Racer W B) → ℕ
  total_share [] = 0
  total_share (r ∷ racers) = share_of r + total_share racers

  -- Each caller that has lines has one racer.
  abbrev pub IsTeam : List Line → List (Racer W B) → Type 0
  IsTeam lines racers = AreCallers lines (numbers_of racers)
