-- The lowest locked block, as it is looked for block by block.
use Rattle.std.proofs.Common.{◌≡◌, ◌<◌, ◌≤◌, ◌+◌, ◌-◌, ◌*◌, ◌⊎◌, inl, inr, ℕ, zero, suc, List, length, refl, sym, ◌∙◌, ap, subst, arith, Bool, true, false, Some, None}
use Rattle.std.specs.Prelude.{◌&&◌, nat_le, nat_lt, slice_index_or, if◌then◌else◌}
use Rattle.std.proofs.lemmas.Bool.{cases_lt, le-leb, lt-ltb, le-ltb, lt-leb, and_from, and_left, and_right}
use Rattle.nor_cell.specs.Chip.{block}
use Rattle.nor_cell.specs.declared.device.Span.{Span}
use Rattle.nor_query.specs.Derived.{locks_of}
use Rattle.nor_bus.specs.Bus.{lane}
use Rattle.nor_probe.specs.declared.probing.Found.{Found}
use Rattle.nor_array.specs.Array.{ArrayState, Constants, is_locked as is_locked_in, lowest, meets}
use Rattle.nor_array.specs.Admits.{lowest_locked}
use Rattle.nor_array.specs.Refusals.{touches}
use Rattle.nor_array.specs.declared.needs.Reach.{Reach}
use Rattle.nor_array.specs.declared.needs.Reach.TheVariants.{Nowhere, Range, Block, Everywhere}
use Rattle.nor_array.specs.declared.entry.Reply.{Reply}
use Rattle.nor_array.proofs.Lowest.{lowest_over}
use Rattle.nor_bank.specs.Locks.{HasReadLock, ShowsArray, ReadsLocks, LosesLocks, blocks_met, locks_most}
use Rattle.nor_bank.specs.Refused.{outline}
use Rattle.nor_bank.specs.Stands.{Stands}
use Rattle.nor_bank.specs.State.{BankState, blocks_of}
use Rattle.nor_bank.proofs.Known.{known_parts, known_some}
use Rattle.nor_bank.proofs.LocksLosing.{loses_then}
use Rattle.nor_bank.proofs.LocksReading.{reads_none, reads_then, reads_within}
use Rattle.nor_bank.proofs.Meeting.{lowest_is}

-- ---- a search

-- that finds none
pub lowest_fails : (test : ℕ → Bool) (k n : ℕ) → ((j : ℕ) → k ≤ j → j < k + n → test j ≡ false) → lowest test k n ≡ None
lowest_fails test k zero fails = refl
lowest_fails test k (suc n) fails =
    lowest_over test k (suc n) n refl (fails k (omega arith) (omega arith))
    ∙ lowest_fails test (k + 1) n (λ j low high. fails j (omega arith) (omega arith))

-- the blocks that are touched lie from one up to another
abbrev pub TouchesTo : ArrayState → Reach → (first end : ℕ) → Type 0
TouchesTo a reach first end = (k : ℕ) → k < length a.consts.blocks → touches a reach k ≡ (nat_le first k && nat_lt k end)

-- a block before or behind them isn't touched
before : (first end k : ℕ) → k < first → (nat_le first k && nat_lt k end) ≡ false
before first end k less = and_left (nat_le first k) (nat_lt k end) (lt-leb first k less)

behind : (first end k : ℕ) → end ≤ k → (nat_le first k && nat_lt k end) ≡ false
behind first end k past = and_right (nat_le first k) (nat_lt k end) (le-ltb k end past)

module _ (a : ArrayState) (reach : Reach) (first end : ℕ) (touched : TouchesTo a reach first end) where
  fails : (next k : ℕ) → k < length a.consts.blocks → k < next → ((j : ℕ) → first ≤ j → j < next → is_locked_in a j ≡ false)
      → (touches a reach k && is_locked_in a k) ≡ false
  fails next k there below none = elim (cases_lt k first) [
    | inl less ↦ and_left (touches a reach k) (is_locked_in a k) (touched k there ∙ before first end k less)
    | inr more ↦ and_right (touches a reach k) (is_locked_in a k) (none k more below)
  ]

  -- None of these is locked.
  pub none_locked : (next : ℕ) → end ≤ next → ((j : ℕ) → first ≤ j → j < next → is_locked_in a j ≡ false) → lowest_locked a reach ≡ None
  none_locked next past none =
      lowest_fails (λ k. touches a reach k && is_locked_in a k) 0 (length a.consts.blocks) (λ k low high.
      let there : k < length a.consts.blocks = omega arith in
      elim (cases_lt k next) [
        | inl less ↦ fails next k there less none
        | inr more ↦ and_left (touches a reach k) (is_locked_in a k) (touched k there ∙ behind first end k (omega arith))
      ])

  -- This is the first that is.
  pub first_locked : (k : ℕ) → first ≤ k → k < end → k < length a.consts.blocks → ((j : ℕ) → first ≤ j → j < k → is_locked_in a j ≡ false)
      → is_locked_in a k ≡ true → lowest_locked a reach ≡ Some k
  first_locked k from to there none is =
      lowest_is (λ j. touches a reach j && is_locked_in a j) 0 (length a.consts.blocks) k (omega arith) (omega arith)
      (and_from _ _ (touched k there ∙ and_from _ _ (le-leb first k from) (lt-ltb k end to)) is)
      (λ j below. fails k j (omega arith) below none)

-- what is touched is decided by the blocks alone
pub touches_by_blocks : (a c : ArrayState) (reach : Reach) (k : ℕ) → a.consts.blocks ≡ c.consts.blocks → touches a reach k ≡ touches c reach k
touches_by_blocks a c Nowhere k same = refl
touches_by_blocks a c (Range at len) k same = ap (λ (bs : List Span). meets at len (block bs k)) same
touches_by_blocks a c (Block b) k same = refl
touches_by_blocks a c Everywhere k same = refl

pub touched_so : (b : BankState) (a : ArrayState) (reach : Reach) (first end : ℕ) → Stands b a
    → ((k : ℕ) → k < length (blocks_of b.found) → touches (outline b) reach k ≡ (nat_le first k && nat_lt k end)) → TouchesTo a reach first end
touched_so b a reach first end stands touched k there =
    let blocks : a.consts.blocks ≡ blocks_of b.found = ap (λ (x : Constants). x.blocks) stands.consts in
    touches_by_blocks a (outline b) reach k blocks ∙ touched k (subst (λ (bs : List Span). k < length bs) blocks there)

-- ---- where no locks are offered

none_set : (test : Bool) (k : ℕ) (ls ms : List Bool) → ms ≡ ls → slice_index_or ms k false ≡ false → (test && slice_index_or ls k false) ≡ false
none_set test k ls ms same none = and_right test (slice_index_or ls k false) (ap (λ (x : List Bool). slice_index_or x k false) (sym same) ∙ none)

pub none_offered : (b : BankState) (a : ArrayState) (reach : Reach) → locks_of b.found.query.extended ≡ false → Stands b a → lowest_locked a reach ≡ None
none_offered b a reach none stands =
    let some = known_some b.found b.bus stands.known in
    let part = known_parts b.found b.bus stands.known 0 some in
    lowest_fails (λ k. touches a reach k && is_locked_in a k) 0 (length a.consts.blocks) (λ k low high.
    none_set (touches a reach k) k a.locks (lane b.bus 0).locks (stands.locks 0 some) (part.unlocked none k))

-- ---- block by block

-- The locks from one block up to another have been read, and none of them is set.
pub record UnlockedTo (first end next : ℕ) (old now : BankState) : Type 0 where
  pub near : (next ≡ first) ⊎ (next ≤ end)
  pub reads : ReadsLocks (6 * (next - first)) old now
  pub none : (a : ArrayState) → ShowsArray old a → (k : ℕ) → first ≤ k → k < next → is_locked_in a k ≡ false

pub unlocked_none : (first end : ℕ) (b : BankState) → UnlockedTo first end first b b
unlocked_none first end b = record {
  near = inl refl;
  reads = reads_within 0 (6 * (first - first)) b b (omega arith) (reads_none b);
  none = λ a shows k from to. absurd (omega arith);
}

pub unlocked_more : (first end next : ℕ) (old now new : BankState) → first ≤ next → next < end → UnlockedTo first end next old now → ReadsLocks 6 now new
    → ((a : ArrayState) → ShowsArray now a → false ≡ is_locked_in a next) → UnlockedTo first end (next + 1) old new
unlocked_more first end next old now new from below is reads told = record {
  near = inr (omega arith);
  reads = reads_then (6 * (next - first)) 6 (6 * (next + 1 - first)) old now new (omega arith) is.reads reads;
  none = λ a shows k low high. elim (cases_lt k next) [
    | inl less ↦ is.none a shows k low less
    | inr more ↦
        let same : k ≡ next = omega arith in
        ap (λ (j : ℕ). is_locked_in a j) same ∙ sym (told a (is.reads.shows a shows))
  ];
}

-- ---- the whole search

-- It begins where locks are offered, and the blocks that are touched are known.
pub record SearchesIn (b : BankState) (reach : Reach) (first end : ℕ) : Type 0 where
  pub offers : locks_of b.found.query.extended ≡ true
  pub there : end ≤ length (blocks_of b.found)
  pub touched : (k : ℕ) → k < length (blocks_of b.found) → touches (outline b) reach k ≡ (nat_le first k && nat_lt k end)
  pub count : end - first ≡ blocks_met b.found reach

module _ (old : BankState) (reach : Reach) (first end : ℕ) (is : SearchesIn old reach first end) where
  most_is : locks_most old.found reach ≡ 6 * (end - first)
  most_is =
      ap (λ (offered : Bool). if offered then 6 * blocks_met old.found reach else 0) is.offers
      ∙ ap (λ (n : ℕ). 6 * n) (sym is.count)

  in_array : (a : ArrayState) (k : ℕ) → Stands old a → k < end → k < length a.consts.blocks
  in_array a k stands below =
      let there = is.there in
      subst (λ (bs : List Span). k < length bs) (sym (ap (λ (x : Constants). x.blocks) stands.consts)) (omega arith)

  module _ (next : ℕ) (now : BankState) (so_far : UnlockedTo first end next old now) where
    found_kept : now.found ≡ old.found
    found_kept = ap (λ (b : BankState). b.found) so_far.reads.kept

    pub search_there : next < end → next < length (blocks_of now.found)
    search_there below =
        let there = is.there in
        subst (λ (f : Found). next < length (blocks_of f)) (sym found_kept) (omega arith)

    pub search_offers : locks_of now.found.query.extended ≡ true
    search_offers = ap (λ (f : Found). locks_of f.query.extended) found_kept ∙ is.offers

    -- Power goes at the next lock,
    pub search_lost : (new : BankState) (reply : Reply) → first ≤ next → next < end → LosesLocks 6 now new reply
        → LosesLocks (locks_most old.found reach) old new reply
    search_lost new reply from below loses =
        let most = most_is in
        loses_then (6 * (next - first)) 6 (locks_most old.found reach) old now new reply (omega (arith, most)) so_far.reads loses

    -- or that is set,
    pub search_found : (new : BankState) → first ≤ next → next < end → ReadsLocks 6 now new → ReadsLocks (locks_most old.found reach) old new
    search_found new from below reads =
        let most = most_is in
        reads_then (6 * (next - first)) 6 (locks_most old.found reach) old now new (omega (arith, most)) so_far.reads reads

    pub found_read : first ≤ next → next < end → HasReadLock old reach next
    found_read from below =
        let last = is.there in
        let there : next < length (blocks_of old.found) = omega (arith, below, last) in
        record { offers = is.offers; there = there; touched = is.touched next there ∙ and_from _ _ (le-leb first next from) (lt-ltb next end below) }

    pub found_lowest : first ≤ next → next < end → ((a : ArrayState) → ShowsArray now a → true ≡ is_locked_in a next)
        → (a : ArrayState) → ShowsArray old a → Some next ≡ lowest_locked a reach
    found_lowest from below told a shows =
        sym (first_locked a reach first end (touched_so old a reach first end shows.stands is.touched) next from below (in_array a next shows.stands below)
        (so_far.none a shows) (sym (told a (so_far.reads.shows a shows))))

    -- or all have been read.
    pub search_over : ReadsLocks (locks_most old.found reach) old now
    search_over =
        let most = most_is in
        reads_within (6 * (next - first)) (locks_most old.found reach) old now (elim so_far.near [
          | inl same ↦ omega (arith, most, same)
          | inr within ↦ omega (arith, most, within)
        ]) so_far.reads

    pub over_lowest : end ≤ next → (a : ArrayState) → ShowsArray old a → None ≡ lowest_locked a reach
    over_lowest past a shows =
        sym (none_locked a reach first end (touched_so old a reach first end shows.stands is.touched) next past (so_far.none a shows))
