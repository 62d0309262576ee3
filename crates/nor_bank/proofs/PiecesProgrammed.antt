-- A piece is programmed: a word of its own, or several by the buffer.
use Rattle.std.proofs.Common.{◌≡◌, ◌≢◌, ◌<◌, ◌≤◌, ◌+◌, ◌-◌, ◌*◌, ◌/◌, ◌^◌, ℕ, zero, suc, List, [], ◌∷◌, length, map, take, get_or, slice_index, refl, sym, ap, subst, ◌∙◌, arith, bit_and, Bool, true, false, not, ◌==◌, if◌then◌else◌, min, Result, Ok, Err, IfOk, IfErr, OnOk}
use Rattle.std.specs.Prelude.{nat_le, nat_lt, ◌&&◌, ◌%◌}
use Rattle.std.proofs.lemmas.Bool.{eqb-false}
use Rattle.std.proofs.lemmas.List.{append-nil, length-map, length-take-le}
use Rattle.std.proofs.lemmas.Nat.{div-add-mod'}
use Rattle.std.proofs.Math.Nat.{mul-le-mul_right, mod-lt}
use Rattle.nor_cell.specs.Bits.{AreBytes, has_bit, unit_bytes}
use Rattle.nor_cell.specs.Chip.{block_at, place}
use Rattle.nor_cell.specs.declared.device.Set.{Set}
use Rattle.nor_cell.specs.declared.device.Set.TheVariants.{Intel, Amd}
use Rattle.nor_cell.proofs.Between.{shown_takes}
use Rattle.nor_cell.proofs.Logic.{both_pass, is_below, passes_below, same_number}
use Rattle.nor_probe.specs.declared.probing.Found.{Found}
use Rattle.nor_word.specs.Word.{lane_of}
use Rattle.nor_bus.specs.Bus.{BusState, bank_byte, lane, lanes_of, wide}
use Rattle.nor_bus.specs.Cycles.{KeepsLanes}
use Rattle.nor_bus.specs.Driven.{Counted, EachPart, Lost, Reaches, Went}
use Rattle.nor_poll.specs.Buffer.{AreLoadsBroken, EachLoad, LoadHalts, ProgramsLoad, ReachesAll, TakesLoad, load_most, load_of, load_stuck, last_of}
use Rattle.nor_poll.specs.Losing.{Loses, Tears}
use Rattle.nor_poll.specs.Word.{AreBroken, ProgramDone, ProgramsWord, TakesProgram, WordHalts, word_most, word_stuck}
use Rattle.nor_poll.specs.Words.{breaks}
use Rattle.nor_poll.specs.declared.lanes.Halt.{Halt}
use Rattle.nor_poll.specs.declared.lanes.Halt.TheVariants.{Off, Stuck}
use Rattle.nor_poll.specs.declared.lanes.LaneSet.{LaneSet}
use Rattle.nor_bank.specs.Pieces.{CanProgramAll, EndsPiece, HaltsPiece, Wait, word_cost_in}
use Rattle.nor_bank.specs.Programs.{Changes, GivesUp, LeavesBy, ProgramsPiece, changes_at, changes_of}
use Rattle.nor_bank.specs.Ranges.{MeetsWord}
use Rattle.nor_bank.specs.Runs.{joins_in, least_limit, limit_in, load_limit_in, most_limit, units_in}
use Rattle.nor_bank.specs.State.{blocks_of}
use Rattle.nor_bank.proofs.Breaking.{changes_in}
use Rattle.nor_bank.proofs.OneWord.{word_there}
use Rattle.nor_bank.proofs.PiecesDone.{piece_done, piece_lost, piece_torn}
use Rattle.nor_bank.proofs.PiecesLoad.{AllBytes}
use Rattle.nor_bank.proofs.Searching.{lowest_passes}
use Rattle.nor_bank.proofs.Storing.{takes}
use Rattle.nor_bank.proofs.WeakSpans.{few_bits}
use Rattle.nor_bank.proofs.Using.{lost_within}

-- ---- the words of a piece

-- every word of a list of them has bytes
pub all_bytes : {X : Type 0} (bytes : X → List ℕ) → ((x : X) → AreBytes (bytes x)) → (xs : List X) → AllBytes (map bytes xs)
all_bytes bytes small [] k p = omega arith
all_bytes bytes small (x ∷ xs) zero p = small x p
all_bytes bytes small (x ∷ xs) (suc k) p = all_bytes bytes small xs k p

-- the first so many words are those that wait
pub record AreFirst (n : ℕ) (words all : List (List ℕ)) : Type 0 where
  pub count : length words ≡ n
  pub same : (k : ℕ) → k < n → get_or words k [] ≡ get_or all k []
  pub small : AllBytes words

-- the bytes of one of the first n words
taken_at : {X : Type 0} (bytes : X → List ℕ) (xs : List X) (n k : ℕ) → k < n → get_or (map bytes (take n xs)) k [] ≡ get_or (map bytes xs) k []
taken_at bytes [] zero k less = refl
taken_at bytes [] (suc n) k less = refl
taken_at bytes (x ∷ xs) zero k less = absurd (omega (arith, less))
taken_at bytes (x ∷ xs) (suc n) zero less = refl
taken_at bytes (x ∷ xs) (suc n) (suc k) less = taken_at bytes xs n k (omega (arith, less))

first_at : {X : Type 0} (bytes : X → List ℕ) (xs : List X) (x : X) (k : ℕ) → x ≡ get_or xs 0 x → 0 < length xs → k < 1 → get_or (bytes x ∷ []) k [] ≡ get_or (map bytes xs) k []
first_at bytes [] x k is some there = absurd (omega (arith, some))
first_at bytes (y ∷ xs) x zero is some there = ap bytes is
first_at bytes (y ∷ xs) x (suc k) is some there = absurd (omega (arith, there))

-- so it is with the words' bytes
module _ {X : Type 0} (bytes : X → List ℕ) (small : (x : X) → AreBytes (bytes x)) (xs : List X) where
  pub first_taken : (n : ℕ) → n ≤ length xs → AreFirst (length (take n xs)) (map bytes (take n xs)) (map bytes xs)
  first_taken n le =
      let size = length-take-le n xs le in
      record {
        count = length-map (take n xs) bytes;
        same = λ k there. taken_at bytes xs n k (omega (arith, there, size));
        small = all_bytes bytes small (take n xs);
      }

  pub first_alone : (x : X) → x ≡ get_or xs 0 x → 0 < length xs → AreFirst 1 (bytes x ∷ []) (map bytes xs)
  first_alone x is some = record {
    count = refl;
    same = λ k there. first_at bytes xs x k is some there;
    small = all_bytes bytes small (x ∷ []);
  }

-- what waits, of the first words alone
wait_first : (w : ℕ) (f : Found) (at : ℕ) (new : List ℕ) (u n : ℕ) (words all : List (List ℕ)) (bus : BusState) → AreFirst n words all → Wait w f at new u n all bus
    → Wait w f at new u (length words) words bus
wait_first w f at new u n words all bus first wait =
    subst (λ (m : ℕ). Wait w f at new u m words bus) (sym first.count) (record {
      meets = wait.meets;
      together = wait.together;
      each = λ k there j less. ap (λ (l : List ℕ). slice_index l j) (first.same k there) ∙ wait.each k there j less;
      changes = wait.changes;
    })

-- ---- words that go together

pub record Join (w : ℕ) (f : Found) (u v : ℕ) : Type 0 where
  pub some : 0 < units_in f
  pub page : v / units_in f ≡ u / units_in f
  pub block : block_at (blocks_of f) (v * w) ≡ block_at (blocks_of f) (u * w)

pub joined : (w : ℕ) (f : Found) (u v : ℕ) → joins_in w f u v ≡ true → Join w f u v
joined w f u v is =
    let outer = both_pass (nat_lt 0 (units_in f) && (v / units_in f == u / units_in f)) (block_at (blocks_of f) (v * w) == block_at (blocks_of f) (u * w)) is in
    let inner = both_pass (nat_lt 0 (units_in f)) (v / units_in f == u / units_in f) outer.0 in
    record { some = is_below 0 (units_in f) inner.0; page = same_number _ _ inner.1; block = same_number _ _ outer.1 }

-- so few that they have room in a page
few_in_page : (n u v : ℕ) → 0 < n → u ≤ v → v / n ≡ u / n → v - u < n
few_in_page n u v some order same =
    let first = div-add-mod' u n in
    let last = div-add-mod' v n in
    let row : v / n * n ≡ u / n * n = ap (λ (m : ℕ). m * n) same in
    let less : v % n < n = mod-lt v some in
    omega (arith, first, last, row, less)

-- a byte that would change
not_so : (b : Bool) → not b ≡ true → b ≡ false
not_so false is = refl
not_so true is = absurd (cc)

would_lose : (byte : ℕ → ℕ) (at : ℕ) (new : List ℕ) (p : ℕ) → changes_at byte at new p ≡ true → bit_and (byte p) (slice_index new (p - at)) ≢ byte p
would_lose byte at new p is =
    let outer = both_pass (nat_le at p && nat_lt p (at + length new)) (not (bit_and (byte p) (slice_index new (p - at)) == byte p)) is in
    eqb-false _ _ (not_so _ outer.1)

-- ---- chips that can program them

module _ (w : ℕ) (f : Found) (at u n : ℕ) (new : List ℕ) (words : List (List ℕ)) (old : BusState) (can : CanProgramAll w f at (length new) old) (wait : Wait w f at new u n words old) where
  -- the first of them
  first_meets : 0 < n → MeetsWord w u at (length new)
  first_meets some = subst (λ (v : ℕ). MeetsWord w v at (length new)) (let h : u + 0 ≡ u = omega arith in h) (wait.meets 0 some)

  pub takes_word : (c : ℕ) → 0 < n → c < lanes_of old → TakesProgram f.query.set u (lane old c)
  takes_word c some below = takes f.query.set u (lane old c) (can.words.set c below) (can.words.chips c below) (can.words.free u (first_meets some) c below)

  pub reaches_word : 0 < n → Reaches w f.geometry u old
  reaches_word some = record { own = can.words.own; there = word_there w f.query.set f.geometry (limit_in f) u at (length new) old can.words (first_meets some) }

  pub takes_load : (c : ℕ) → 1 < n → c < lanes_of old → TakesLoad f.query.set u n (lane old c)
  takes_load c some below =
      let s = lane old c in
      let load = can.loads c below in
      let chip = can.words.chips c below in
      let last = n - 1 in
      let meets = first_meets (omega (arith, some)) in
      let end = wait.meets last (omega (arith, some)) in
      let join = joined w f u (u + last) (wait.together last (omega (arith, some)) (omega (arith, some))) in
      let near = few_in_page (units_in f) u (u + last) join.some (omega arith) join.page in
      let free = can.words.free u meets c below in
      record {
        takes = shown_takes f.query.set s (can.words.set c below) chip.shown;
        blocks = free.blocks;
        some = omega (arith, some);
        few = let room_is = load.room in omega (arith, room_is, near, some);
        page = ap (λ (m : ℕ). last_of u n / m) load.room ∙ (join.page ∙ sym (ap (λ (m : ℕ). u / m) load.room));
        block = load.blocks u (u + last) meets end join.block;
        unlocked = free.unlocked;
        free = free.free;
        outside = λ amd. (can.words.free (u + last) end c below).beside;
      }

  pub reaches_load : 1 < n → ReachesAll w f.geometry u n old
  reaches_load some = record {
    own = can.words.own;
    there = word_there w f.query.set f.geometry (limit_in f) (last_of u n) at (length new) old can.words (wait.meets (n - 1) (omega (arith, some)));
  }

  -- a byte of them would change
  pub piece_changes : 0 < n → Changes f.geometry.device at new (u * w) old
  piece_changes some =
      let byte = bank_byte f.geometry.device old.lanes in
      let is = lowest_passes (changes_of f.geometry old at new) ((u + 0) * w) w (wait.changes 0 some) in
      let p = is.place in
      let from = is.from in
      let start : (u + 0) * w ≡ u * w = omega arith in
      let within = changes_in byte at new p is.passes in
      record {
        place = p;
        behind = omega (arith, from, start);
        begins = within.0;
        ends = within.1;
        changes = would_lose byte at new p is.passes;
      }

-- ---- cycles

-- limits
least_by : (has_buffer : Bool) (word load : ℕ) → (if has_buffer then min word load else word) ≤ word
least_by true word load = grind arith
least_by false word load = omega arith

pub least_word : (f : Found) → (least_limit f ≤ limit_in f) × (limit_in f ≤ most_limit f)
least_word f = (least_by (nat_lt 0 (units_in f)) (limit_in f) (load_limit_in f), grind arith)

-- with a buffer
pub least_load : (f : Found) → 0 < units_in f → (least_limit f ≤ load_limit_in f) × (load_limit_in f ≤ most_limit f)
least_load f buffered = (
  subst (λ (b : Bool). (if b then min (limit_in f) (load_limit_in f) else limit_in f) ≤ load_limit_in f) (sym (passes_below 0 (units_in f) buffered)) (grind arith),
  grind arith,
)

-- a word alone, by a limit that is at most another
record WordWithin (kind : Set) (least limit most : ℕ) : Type 0 where
  some : 1 ≤ 5
  done : word_most kind limit ≤ 1 * word_most kind most
  least_stuck : least ≤ word_stuck kind limit
  stuck : word_stuck kind limit ≤ 1 * word_most kind most

word_within : (kind : Set) (least limit most : ℕ) → least ≤ limit → limit ≤ most → WordWithin kind least limit most
word_within Intel least limit most low high = record { some = omega arith; done = omega arith; least_stuck = omega arith; stuck = omega arith }
word_within Amd least limit most low high = record { some = omega arith; done = omega arith; least_stuck = omega arith; stuck = omega arith }

-- several words at once
record LoadWithin (kind : Set) (n least limit most : ℕ) : Type 0 where
  done : load_most kind n limit ≤ n * word_most kind most
  least_stuck : least ≤ load_stuck kind n limit
  stuck : load_stuck kind n limit ≤ n * word_most kind most

load_within : (kind : Set) (n least limit most : ℕ) → 1 < n → least ≤ limit → limit ≤ most → LoadWithin kind n least limit most
load_within Intel n least limit most some low high =
    let twice = mul-le-mul_right most (let h : 2 ≤ n = omega (arith, some) in h) in
    let all : n * (most + 5) ≡ n * most + n * 5 = omega arith in
    record { done = omega (arith, twice, all, some, high); least_stuck = omega (arith, low); stuck = omega (arith, twice, all, some, high) }
load_within Amd n least limit most some low high =
    let twice = mul-le-mul_right (2 * most) (let h : 2 ≤ n = omega (arith, some) in h) in
    let all : n * (2 * most + 6) ≡ n * (2 * most) + n * 6 = omega arith in
    record { done = omega (arith, twice, all, some, high); least_stuck = omega (arith, low); stuck = omega (arith, twice, all, some, high) }

-- ---- a word of its own

module _ (w : ℕ) (f : Found) (u : ℕ) (word : List ℕ) (all : List (List ℕ)) (old now : BusState) (wide_enough : 0 < w) (first : AreFirst 1 (word ∷ []) all) where
  -- a lane's part of it, as a load
  load_is : (c : ℕ) → load_of (lane old c).part.device c (word ∷ []) ≡ unit_bytes (lane old c).part.device (lane_of (wide (lane old c)) word c)
  load_is c = append-nil (unit_bytes (lane old c).part.device (lane_of (wide (lane old c)) word c))

  word_ends : (lanes : LaneSet) → KeepsLanes old now → (Reaches w f.geometry u old → EachPart word (ProgramsWord f.query.set u) old now) → AreBroken f.query.set w f.geometry u word old lanes
      → EndsPiece w f u 1 all lanes.bits old now
  word_ends lanes kept done are at new can wait =
      let own = wait_first w f at new u 1 (word ∷ []) all old first wait in
      let one : 0 < 1 = omega arith in
      let reach = reaches_word w f at u 1 new all old can wait one in
      let taking = λ (c : ℕ) (below : c < lanes_of old). takes_word w f at u 1 new all old can wait c one below in
      piece_done w f at u new (word ∷ []) old now can own wide_enough one first.small kept f.query.set lanes.bits
      (λ c below. subst (λ (l : List ℕ). ProgramDone f.query.set (place (lane old c).part u) l (lane old c) (lane now c)) (sym (load_is c)) (done reach c below (taking c below)))
      (λ c below. are.told reach c below (taking c below) ∙ ap (λ (l : List ℕ). breaks (place (lane old c).part u) l (lane old c)) (sym (load_is c)))
      are.past

  word_leaves : (halt : Halt) → WordHalts f.query.set w f.geometry u word (limit_in f) old now halt → (at : ℕ) (new : List ℕ) → CanProgramAll w f at (length new) old → Wait w f at new u 1 all old
      → LeavesBy f.geometry.device at new (u * w) halt old now
  word_leaves Off halts at new can wait =
      let own = wait_first w f at new u 1 (word ∷ []) all old first wait in
      let one : 0 < 1 = omega arith in
      let reach = reaches_word w f at u 1 new all old can wait one in
      piece_lost w f at u new (word ∷ []) old now can own wide_enough one first.small halts.0.kept
      (λ c below. subst (λ (l : List ℕ). Loses (place (lane old c).part u) l (lane old c) (lane now c)) (sym (load_is c)) (halts.1 reach c below (takes_word w f at u 1 new all old can wait c one below)))
  word_leaves (Stuck k) halts at new can wait =
      let own = wait_first w f at new u 1 (word ∷ []) all old first wait in
      let one : 0 < 1 = omega arith in
      let reach = reaches_word w f at u 1 new all old can wait one in
      let there : k < lanes_of old = subst (λ (m : ℕ). k < m) (sym can.words.own.count) halts.0 in (
        piece_torn w f at u new (word ∷ []) old now can own wide_enough one first.small halts.1.kept
            (λ c below. subst (λ (l : List ℕ). Tears (place (lane old c).part u) l (lane old c) (lane now c)) (sym (load_is c)) (halts.2 reach c below (takes_word w f at u 1 new all old can wait c one below))),
        halts.3 reach (takes_word w f at u 1 new all old can wait k one there) (can.words.limits k there),
        piece_changes w f at u 1 new all old can wait one,
      )

  word_gives_up : (halt : Halt) → WordHalts f.query.set w f.geometry u word (limit_in f) old now halt → GivesUp f.geometry.lanes (least_limit f) (1 * word_cost_in f) halt old now
  word_gives_up Off halts =
      let within = word_within f.query.set (least_limit f) (limit_in f) (most_limit f) (least_word f).0 (least_word f).1 in
      lost_within (word_most f.query.set (limit_in f)) (1 * word_cost_in f) old now within.done halts.0
  word_gives_up (Stuck k) halts =
      let within = word_within f.query.set (least_limit f) (limit_in f) (most_limit f) (least_word f).0 (least_word f).1 in
      (halts.0, record { cycles = word_stuck f.query.set (limit_in f); enough = within.least_stuck; few = within.stuck; went = halts.1 })

  pub one_ends : (r : Result LaneSet Halt) → OnOk r (Counted 5 (word_most f.query.set (limit_in f)) old now)
      → OnOk r (Reaches w f.geometry u old → EachPart word (ProgramsWord f.query.set u) old now) → IfOk r (AreBroken f.query.set w f.geometry u word old)
      → IfOk r (λ lanes. EndsPiece w f u 1 all lanes.bits old now)
  one_ends (Ok lanes) counted done are = word_ends lanes counted.went.kept done are
  one_ends (Err halt) counted done are = tt

  pub one_counted : (r : Result LaneSet Halt) → OnOk r (Counted 5 (word_most f.query.set (limit_in f)) old now) → OnOk r (Counted 1 (1 * word_cost_in f) old now)
  one_counted (Ok lanes) counted =
      let within = word_within f.query.set (least_limit f) (limit_in f) (most_limit f) (least_word f).0 (least_word f).1 in
      let enough = counted.enough in
      let few = counted.few in
      let most = within.done in
      record { cycles = counted.cycles; enough = omega (arith, enough); few = omega (arith, few, most); went = counted.went }
  one_counted (Err halt) counted = tt

  pub one_halts : (r : Result LaneSet Halt) → IfErr r (WordHalts f.query.set w f.geometry u word (limit_in f) old now) → IfErr r (λ halt. HaltsPiece w f u 1 all halt old now)
  one_halts (Ok lanes) halts = tt
  one_halts (Err halt) halts = record { cycles = word_gives_up halt halts; leaves = word_leaves halt halts }

-- ---- several

module _ (w : ℕ) (f : Found) (u n : ℕ) (words all : List (List ℕ)) (old now : BusState) (wide_enough : 0 < w) (several : 1 < n) (first : AreFirst n words all) where
  more : 0 < length words
  more = let count = first.count in omega (arith, count, several)

  load_ends : (lanes : LaneSet) → KeepsLanes old now → (ReachesAll w f.geometry u n old → EachLoad words (ProgramsLoad f.query.set u n) old now) → AreLoadsBroken f.query.set w f.geometry u words old lanes
      → EndsPiece w f u n all lanes.bits old now
  load_ends lanes kept done are at new can wait =
      let own = wait_first w f at new u n words all old first wait in
      let reach = reaches_load w f at u n new all old can wait several in
      let taking = λ (c : ℕ) (below : c < lanes_of old). takes_load w f at u n new all old can wait c several below in
      let count = first.count in
      subst (λ (m : ℕ). ProgramsPiece f.geometry lanes.bits at new (u * w) ((u + m) * w) old now) count
      (piece_done w f at u new words old now can own wide_enough more first.small kept f.query.set lanes.bits
      (λ c below. done reach c below (taking c below))
      (λ c below. are.told (subst (λ (m : ℕ). ReachesAll w f.geometry u m old) (sym count) reach) c below (subst (λ (m : ℕ). TakesLoad f.query.set u m (lane old c)) (sym count) (taking c below)))
      are.past)

  load_leaves : (halt : Halt) → LoadHalts f.query.set w f.geometry u words (load_limit_in f) old now halt → (at : ℕ) (new : List ℕ) → CanProgramAll w f at (length new) old → Wait w f at new u n all old
      → LeavesBy f.geometry.device at new (u * w) halt old now
  load_leaves Off halts at new can wait =
      let own = wait_first w f at new u n words all old first wait in
      let count = first.count in
      let reach = subst (λ (m : ℕ). ReachesAll w f.geometry u m old) (sym count) (reaches_load w f at u n new all old can wait several) in
      piece_lost w f at u new words old now can own wide_enough more first.small halts.0.kept
      (λ c below. halts.1 reach c below (subst (λ (m : ℕ). TakesLoad f.query.set u m (lane old c)) (sym count) (takes_load w f at u n new all old can wait c several below)))
  load_leaves (Stuck k) halts at new can wait =
      let own = wait_first w f at new u n words all old first wait in
      let count = first.count in
      let reach = subst (λ (m : ℕ). ReachesAll w f.geometry u m old) (sym count) (reaches_load w f at u n new all old can wait several) in
      let taking = λ (c : ℕ) (below : c < lanes_of old). subst (λ (m : ℕ). TakesLoad f.query.set u m (lane old c)) (sym count) (takes_load w f at u n new all old can wait c several below) in
      let there : k < lanes_of old = subst (λ (m : ℕ). k < m) (sym can.words.own.count) halts.0 in (
        piece_torn w f at u new words old now can own wide_enough more first.small halts.1.kept (λ c below. halts.2 reach c below (taking c below)),
        halts.3 reach (taking k there) (can.loads k there).reads,
        piece_changes w f at u n new all old can wait (omega (arith, several)),
      )

  pub several_end : (r : Result LaneSet Halt) → OnOk r (Counted (n + 6) (load_most f.query.set n (load_limit_in f)) old now)
      → OnOk r (ReachesAll w f.geometry u n old → EachLoad words (ProgramsLoad f.query.set u n) old now) → IfOk r (AreLoadsBroken f.query.set w f.geometry u words old)
      → IfOk r (λ lanes. EndsPiece w f u n all lanes.bits old now)
  several_end (Ok lanes) counted done are = load_ends lanes counted.went.kept done are
  several_end (Err halt) counted done are = tt

  module _ (buffered : 0 < units_in f) where
    within : LoadWithin f.query.set n (least_limit f) (load_limit_in f) (most_limit f)
    within = load_within f.query.set n (least_limit f) (load_limit_in f) (most_limit f) several (least_load f buffered).0 (least_load f buffered).1

    load_gives_up : (halt : Halt) → LoadHalts f.query.set w f.geometry u words (load_limit_in f) old now halt → GivesUp f.geometry.lanes (least_limit f) (n * word_cost_in f) halt old now
    load_gives_up Off halts =
        lost_within (load_most f.query.set n (load_limit_in f)) (n * word_cost_in f) old now within.done
        (subst (λ (m : ℕ). Lost (load_most f.query.set m (load_limit_in f)) old now) first.count halts.0)
    load_gives_up (Stuck k) halts = (
      halts.0,
      record {
        cycles = load_stuck f.query.set n (load_limit_in f);
        enough = within.least_stuck;
        few = within.stuck;
        went = subst (λ (m : ℕ). Went (load_stuck f.query.set m (load_limit_in f)) (load_stuck f.query.set m (load_limit_in f)) old now) first.count halts.1;
      },
    )

    pub several_counted : (r : Result LaneSet Halt) → OnOk r (Counted (n + 6) (load_most f.query.set n (load_limit_in f)) old now) → OnOk r (Counted n (n * word_cost_in f) old now)
    several_counted (Ok lanes) counted =
        let enough = counted.enough in
        let few = counted.few in
        let most = within.done in
        record { cycles = counted.cycles; enough = omega (arith, enough); few = omega (arith, few, most); went = counted.went }
    several_counted (Err halt) counted = tt

    pub several_halt : (r : Result LaneSet Halt) → IfErr r (LoadHalts f.query.set w f.geometry u words (load_limit_in f) old now) → IfErr r (λ halt. HaltsPiece w f u n all halt old now)
    several_halt (Ok lanes) halts = tt
    several_halt (Err halt) halts = record { cycles = load_gives_up halt halts; leaves = load_leaves halt halts }

-- ---- the lanes that broke off are lanes of the bank

pub few_lanes : (r : Result LaneSet Halt) (count : ℕ) (P : LaneSet → Type 0) → ((lanes : LaneSet) → P lanes → (c : ℕ) → count ≤ c → has_bit lanes.bits c ≡ false)
    → IfOk r P → IfOk r (λ lanes. lanes.bits < 2 ^ count)
few_lanes (Ok lanes) count P past holds = few_bits count lanes.bits (past lanes holds)
few_lanes (Err halt) count P past holds = tt
