-- The steps of a buffer load, by the buses between them.
use Rattle.std.proofs.Common.{◌≡◌, ◌+◌, ◌-◌, ◌<◌, ◌∙◌, ℕ, List, ap, arith}
use Rattle.nor_cell.specs.declared.device.Set.{Set}
use Rattle.nor_cell.specs.declared.geometry.Geometry.{Geometry}
use Rattle.nor_bus.specs.Bus.{BusState, lane, lanes_of}
use Rattle.nor_bus.specs.Driven.{Reaches, Went, EachLane, TakesCode, reached}
use Rattle.nor_bus.proofs.Driving.{went_then, reaches_kept, lane_kept, code_reached}
use Rattle.nor_poll.specs.Buffer.{ReachesAll, after_words, load_opened, load_filled, last_of}
use Rattle.nor_poll.specs.Codes.{cycle_count, cycles_of, after_cycle, after_cycles, code}
use Rattle.nor_poll.specs.Reads.{EachSent}
use Rattle.nor_poll.specs.declared.codes.To.TheVariants.{Here}
use Rattle.nor_poll.specs.declared.codes.Command.TheVariants.{LoadBuffer}
use Rattle.nor_poll.proofs.WordSending.{first_reached}

-- The command was written, and the count of the words behind it.
pub record IsCounted (kind : Set) (width : ℕ) (g : Geometry) (u n : ℕ) (old opened counted : BusState) : Type 0 where
  pub first : Went (cycle_count kind LoadBuffer) (cycle_count kind LoadBuffer) old opened
  pub codes : Reaches width g u old → EachLane (λ s t. t ≡ after_cycles u (cycles_of kind LoadBuffer) s) old opened
  pub second : Went 1 1 opened counted
  pub count : EachLane (TakesCode (reached u opened) (n - 1)) opened counted

-- how many cycles these are
abbrev pub count_cycles : Set → ℕ
count_cycles kind = cycle_count kind LoadBuffer + 1

pub went_counted : (kind : Set) (width : ℕ) (g : Geometry) (u n : ℕ) (old opened counted : BusState) → IsCounted kind width g u n old opened counted
    → Went (count_cycles kind) (count_cycles kind) old counted
went_counted kind width g u n old opened counted h =
    let i = cycle_count kind LoadBuffer in went_then i i 1 1 (i + 1) (i + 1) old opened counted (omega arith) (omega arith) h.first h.second

pub reaches_counted : (kind : Set) (width : ℕ) (g : Geometry) (u n : ℕ) (old opened counted : BusState) → IsCounted kind width g u n old opened counted → ReachesAll width g u n old
    → ReachesAll width g u n counted
reaches_counted kind width g u n old opened counted h reaches = reaches_kept width g (last_of u n) old counted (went_counted kind width g u n old opened counted h).kept reaches

pub lane_counted : (kind : Set) (width : ℕ) (g : Geometry) (u n c : ℕ) (old opened counted : BusState) → IsCounted kind width g u n old opened counted → c < lanes_of old → c < lanes_of counted
lane_counted kind width g u n c old opened counted h below = lane_kept old counted c (went_counted kind width g u n old opened counted h).kept below

pub opened_lanes : (kind : Set) (width : ℕ) (g : Geometry) (u n : ℕ) (old opened counted : BusState) → IsCounted kind width g u n old opened counted → ReachesAll width g u n old
    → EachSent (λ c. load_opened kind u n) old counted
opened_lanes kind width g u n old opened counted h reaches = λ c below.
    let first = first_reached width g u n old reaches in
    let there = (reaches_kept width g u old opened h.first.kept first).there in
    code_reached u (n - 1) opened counted there h.count c (lane_kept old opened c h.first.kept below)
    ∙ ap (after_cycle u (code (n - 1) Here)) (h.codes first c below)

-- And the words were.
pub record IsFilled (kind : Set) (width : ℕ) (g : Geometry) (u n : ℕ) (words : List (List ℕ)) (old opened counted filled : BusState) : Type 0 where
  pub counts : IsCounted kind width g u n old opened counted
  pub third : Went n n counted filled
  pub sent : ReachesAll width g u n counted → (c : ℕ) → c < lanes_of counted → lane filled c ≡ after_words c u words (lane counted c)

pub went_filled : (kind : Set) (width : ℕ) (g : Geometry) (u n : ℕ) (words : List (List ℕ)) (old opened counted filled : BusState) → IsFilled kind width g u n words old opened counted filled
    → Went (count_cycles kind + n) (count_cycles kind + n) old filled
went_filled kind width g u n words old opened counted filled h =
    let i = count_cycles kind in
    went_then i i n n (i + n) (i + n) old counted filled (omega arith) (omega arith) (went_counted kind width g u n old opened counted h.counts) h.third

pub reaches_filled : (kind : Set) (width : ℕ) (g : Geometry) (u n : ℕ) (words : List (List ℕ)) (old opened counted filled : BusState) → IsFilled kind width g u n words old opened counted filled
    → ReachesAll width g u n old → Reaches width g u filled
reaches_filled kind width g u n words old opened counted filled h reaches =
    reaches_kept width g u old filled (went_filled kind width g u n words old opened counted filled h).kept (first_reached width g u n old reaches)

pub lane_filled : (kind : Set) (width : ℕ) (g : Geometry) (u n c : ℕ) (words : List (List ℕ)) (old opened counted filled : BusState) → IsFilled kind width g u n words old opened counted filled
    → c < lanes_of old → c < lanes_of filled
lane_filled kind width g u n c words old opened counted filled h below = lane_kept old filled c (went_filled kind width g u n words old opened counted filled h).kept below

pub filled_lanes : (kind : Set) (width : ℕ) (g : Geometry) (u n : ℕ) (words : List (List ℕ)) (old opened counted filled : BusState) → IsFilled kind width g u n words old opened counted filled
    → ReachesAll width g u n old → EachSent (load_filled kind u n words) old filled
filled_lanes kind width g u n words old opened counted filled h reaches = λ c below.
    h.sent (reaches_counted kind width g u n old opened counted h.counts reaches) c (lane_counted kind width g u n c old opened counted h.counts below)
    ∙ ap (after_words c u words) (opened_lanes kind width g u n old opened counted h.counts reaches c below)
