-- What is written, one piece behind the other.
use Rattle.std.proofs.Common.{◌≡◌, ◌<◌, ◌≤◌, ℕ, ◌+◌, ◌*◌, List, ◌++◌, [], ◌∷◌, length, take, get_or, refl, sym, ap, subst, ◌∙◌, arith, append_assoc, append-nil}
use borrow.Author.Count.{below_more}
use Rattle.std.proofs.lemmas.Grind.{flat_map-append}
use Rattle.std.proofs.lemmas.List.Folds.{length-flat_map-take}
use Rattle.std.proofs.lemmas.List.{length-append, length-take-le, take_more, take_all}
use Rattle.std.specs.Int.{w32, to_le_bytes}
use Rattle.nor_cell.specs.Chip.{ChipState}
use Rattle.nor_cell.specs.declared.device.Set.{Set}
use Rattle.nor_bus.specs.Bus.{chip_at, no_chip}
use Rattle.nor_image.specs.Written.{place_bytes, record_bytes, records_bytes}
use Rattle.nor_image.specs.Writing.{Puts, HasFields}
use Rattle.nor_image.specs.declared.header.Version.{Version}
use Rattle.nor_image.specs.declared.header.Version.TheVariants.{Two}
use Rattle.nor_image.proofs.ReadBack.{length-place_bytes}

-- nothing is written
pub puts_none : (at : ℕ) (file : List ℕ) → Puts [] at file file at
puts_none at file = record {
  end_is = omega arith;
  size = refl;
  front = sym (append-nil (take at file));
}

-- two pieces are one
pub puts_next : {xs ys old mid new : List ℕ} {at next end : ℕ} → Puts xs at old mid next → Puts ys next mid new end → Puts (xs ++ ys) at old new end
puts_next {xs = xs} {ys = ys} {old = old} {at = at} p q = record {
  end_is = (let first = p.end_is in let second = q.end_is in let both = length-append xs ys in omega arith);
  size = q.size ∙ p.size;
  front = q.front ∙ (ap (λ front. front ++ ys) p.front ∙ append_assoc (take at old) xs ys);
}

-- so many places have so many bytes
pub length-first_places : (places : List ℕ) (k : ℕ) → k ≤ length places → length (place_bytes (take k places)) ≡ 4 * k
length-first_places places k few = length-place_bytes (take k places) ∙ ap (λ n. 4 * n) (length-take-le k places few)

-- one more place
pub places_more : {old mid new : List ℕ} {at next end : ℕ} (places : List ℕ) (k place : ℕ) → k < length places → place ≡ get_or places k 0
    → Puts (place_bytes (take k places)) at old mid next → Puts (to_le_bytes w32 place) next mid new end → Puts (place_bytes (take (k + 1) places)) at old new end
places_more {old = old} {new = new} {at = at} {end = end} places k place below is before more =
    let pieces : place_bytes (take (k + 1) places) ≡ place_bytes (take k places) ++ to_le_bytes w32 place =
    ap place_bytes (take_more places k 0 below)
    ∙ (flat_map-append (to_le_bytes w32) (take k places) (get_or places k 0 ∷ []) ∙ ap (λ p. place_bytes (take k places) ++ to_le_bytes w32 p) (sym is)) in
    subst (λ (bytes : List ℕ). Puts bytes at old new end) (sym pieces) (puts_next before more)

-- the records of one more chip
pub records-take_more : (version : Version) (set : Set) (chips : List ChipState) (c : ℕ) → c < length chips
    → records_bytes version set (take (c + 1) chips) ≡ records_bytes version set (take c chips) ++ record_bytes version set (chip_at chips c)
records-take_more version set chips c below =
    ap (records_bytes version set) (take_more chips c no_chip below)
    ∙ (flat_map-append (record_bytes version set) (take c chips) (chip_at chips c ∷ [])
    ∙ ap (λ last. records_bytes version set (take c chips) ++ last) (append-nil (record_bytes version set (chip_at chips c))))

-- there is room for the record of one more chip
pub record_fits : (set : Set) (head : List ℕ) (chips : List ChipState) (c at : ℕ) (chip : ChipState) → c < length chips → chip ≡ chip_at chips c
    → at ≡ 0 + length (head ++ records_bytes Two set (take c chips)) → at + length (record_bytes Two set chip) ≤ length (head ++ records_bytes Two set chips)
record_fits set head chips c at chip below is here =
    let a = length-append head (records_bytes Two set (take c chips)) in
    let b = length-append head (records_bytes Two set chips) in
    let d = length-flat_map-take (record_bytes Two set) chips c no_chip below in
    let e : length (record_bytes Two set chip) ≡ length (record_bytes Two set (chip_at chips c)) = ap (λ s. length (record_bytes Two set s)) is in
    omega arith

-- all chips were written, and so was the whole file
pub puts_all : {old new : List ℕ} {end : ℕ} (set : Set) (head : List ℕ) (chips : List ChipState) (c : ℕ) → length chips ≤ c
    → Puts (head ++ records_bytes Two set (take c chips)) 0 old new end → length old ≡ length (head ++ records_bytes Two set chips) → new ≡ head ++ records_bytes Two set chips
puts_all {old = old} {new = new} {end = end} set head chips c all puts whole =
    let every : head ++ records_bytes Two set (take c chips) ≡ head ++ records_bytes Two set chips = ap (λ cs. head ++ records_bytes Two set cs) (take_all c chips all) in
    let long = ap length every in
    let size = puts.size in
    let last = puts.end_is in
    let ended : length new ≤ end = omega arith in
    sym (take_all end new ended) ∙ (puts.front ∙ every)

-- The header and the records of the first chips were written, each of which has its fields.
pub record IsFilled (set : Set) (head : List ℕ) (chips : List ChipState) (n : ℕ) (old new : List ℕ) (at : ℕ) : Type 0 where
  pub puts : Puts (head ++ records_bytes Two set (take n chips)) 0 old new at
  pub fields : (c : ℕ) → c < n → HasFields (chip_at chips c)

-- one more chip
pub filled_more : {old mid new : List ℕ} {at next : ℕ} (set : Set) (head : List ℕ) (chips : List ChipState) (c : ℕ) (chip : ChipState) → c < length chips → chip ≡ chip_at chips c
    → IsFilled set head chips c old mid at → Puts (record_bytes Two set chip) at mid new next → HasFields chip → IsFilled set head chips (c + 1) old new next
filled_more {old = old} {new = new} {next = next} set head chips c chip below is before more fields =
    let pieces : head ++ records_bytes Two set (take c chips) ++ record_bytes Two set chip ≡ head ++ records_bytes Two set (take (c + 1) chips) =
    append_assoc head (records_bytes Two set (take c chips)) (record_bytes Two set chip)
    ∙ ap (λ records. head ++ records) (ap (λ s. records_bytes Two set (take c chips) ++ record_bytes Two set s) is ∙ sym (records-take_more Two set chips c below)) in
    record {
      puts = subst (λ (bytes : List ℕ). Puts bytes 0 old new next) pieces (puts_next before.puts more);
      fields = below_more (λ (k : ℕ). HasFields (chip_at chips k)) c before.fields (subst (λ (s : ChipState). HasFields s) is fields);
    }
