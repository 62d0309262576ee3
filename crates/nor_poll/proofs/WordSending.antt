-- Bus words, one after another.
use Rattle.std.proofs.Common.{◌≡◌, inl, inr, ◌+◌, ◌<◌, ◌≤◌, ◌%◌, ◌^◌, ℕ, zero, suc, List, [], ◌∷◌, length, map, drop, get_or, drop-cons, add-one, refl, sym, ap, subst, ◌∙◌, arith}
use Rattle.nor_cell.specs.Chip.{ChipState}
use Rattle.nor_cell.specs.Steps.{written}
use Rattle.nor_cell.specs.declared.geometry.Geometry.{Geometry}
use Rattle.nor_word.specs.Word.{lane_of}
use Rattle.nor_bus.specs.Bus.{BusState, IsWired, lane, lanes_of, units_of, wide}
use Rattle.nor_bus.specs.Driven.{Went, EachLane, EachPart, TakesPart, Darkens, Reaches, reached}
use Rattle.nor_bus.proofs.Driving.{went_none, went_then, lane_kept, there_kept}
use Rattle.nor_bus.proofs.Sizes.{bus_units}
use Rattle.nor_poll.specs.Buffer.{ReachesAll, after_words, DarkensInWords, last_of}
use Rattle.nor_poll.proofs.Sending.{unwrapped}

-- The first k words were written; what the others will make of a chip, all make of the old one.
pub record SentWords (width : ℕ) (g : Geometry) (u : ℕ) (words : List (List ℕ)) (k : ℕ) (old mid : BusState) : Type 0 where
  pub went : Went k k old mid
  pub ends : ReachesAll width g u (length words) old → (c : ℕ) → c < lanes_of old → after_words c (u + k) (drop k words) (lane mid c) ≡ after_words c u words (lane old c)
  pub dark : ReachesAll width g u (length words) old → (c : ℕ) → c < lanes_of old → (t : ChipState)
      → DarkensInWords c (u + k) (drop k words) (lane mid c) t → DarkensInWords c u words (lane old c) t

pub sent_none : (width : ℕ) (g : Geometry) (u : ℕ) (words : List (List ℕ)) (old : BusState) → SentWords width g u words 0 old old
sent_none width g u words old =
    let e : u + 0 ≡ u = omega arith in
    record {
      went = went_none old;
      ends = λ reaches c below. ap (λ (v : ℕ). after_words c v words (lane old c)) e;
      dark = λ reaches c below t h. subst (λ (v : ℕ). DarkensInWords c v words (lane old c) t) e h;
    }

-- the words from the k-th on
pub next_word : (k : ℕ) (words : List (List ℕ)) → k < length words → drop k words ≡ get_or words k [] ∷ drop (k + 1) words
next_word k words h = rw (add-one, drop-cons words k []) refl

pub word_at : {W : Type 0} (f : W → List ℕ) (xs : List W) (k : ℕ) (d : W) → k < length xs → get_or (map f xs) k [] ≡ f (get_or xs k d)
word_at f [] k d h = absurd (omega arith)
word_at f (x ∷ xs) zero d h = refl
word_at f (x ∷ xs) (suc k) d h = word_at f xs k d (omega arith)

-- each lane takes its part of the word
took : (u k a n : ℕ) (word : List ℕ) (old mid new : BusState) → a ≡ (u + k) % 2 ^ 32 → k < n → last_of u n < units_of mid → units_of mid ≤ 134217728
    → EachPart word (TakesPart (reached a mid)) mid new → EachPart word (TakesPart (u + k)) mid new
took u k a n word old mid new is lt there few takes =
    let at : reached a mid ≡ u + k = ap (λ (v : ℕ). reached v mid) is ∙ unwrapped (u + k) mid (omega (arith, lt, there)) few in
    subst (λ (v : ℕ). EachPart word (TakesPart v) mid new) at takes

-- one word more
pub sent_more : (width : ℕ) (g : Geometry) (u k a : ℕ) (word : List ℕ) (words : List (List ℕ)) (old mid new : BusState) → drop k words ≡ word ∷ drop (k + 1) words → a ≡ (u + k) % 2 ^ 32
    → k < length words → IsWired width mid → EachPart word (TakesPart (reached a mid)) mid new → Went 1 1 mid new → SentWords width g u words k old mid → SentWords width g u words (k + 1) old new
sent_more width g u k a word words old mid new is at lt wired takes went sent =
    let rest = drop (k + 1) words in
    let kept = sent.went.kept in
    let later : u + k + 1 ≡ u + (k + 1) = omega arith in
    let one = λ (reaches : ReachesAll width g u (length words) old) (c : ℕ) (below : c < lanes_of old).
    took u k a (length words) word old mid new at lt (there_kept (last_of u (length words)) old mid kept reaches.there) (bus_units width mid wired).1 takes c (lane_kept old mid c kept below) in
    record {
      went = went_then k k 1 1 (k + 1) (k + 1) old mid new (omega arith) (omega arith) sent.went went;
      ends = λ reaches c below.
          ap (after_words c (u + (k + 1)) rest) (one reaches c below)
          ∙ (ap (λ (v : ℕ). after_words c v rest (written (lane mid c) (u + k) (lane_of (wide (lane mid c)) word c))) (sym later)
          ∙ (ap (λ (l : List (List ℕ)). after_words c (u + k) l (lane mid c)) (sym is) ∙ sent.ends reaches c below));
      dark = λ reaches c below t h.
          let first : DarkensInWords c (u + (k + 1)) rest (written (lane mid c) (u + k) (lane_of (wide (lane mid c)) word c)) t =
          subst (λ (s : ChipState). DarkensInWords c (u + (k + 1)) rest s t) (one reaches c below) h in
          let second : DarkensInWords c (u + k + 1) rest (written (lane mid c) (u + k) (lane_of (wide (lane mid c)) word c)) t =
          subst (λ (v : ℕ). DarkensInWords c v rest (written (lane mid c) (u + k) (lane_of (wide (lane mid c)) word c)) t) (sym later) first in
          sent.dark reaches c below t (subst (λ (l : List (List ℕ)). DarkensInWords c (u + k) l (lane mid c) t) (sym is) (inr second));
    }

-- the next one fails
pub sent_dark : (width : ℕ) (g : Geometry) (u k : ℕ) (word : List ℕ) (words rest : List (List ℕ)) (old mid new : BusState) → drop k words ≡ word ∷ rest → EachLane Darkens mid new
    → SentWords width g u words k old mid → ReachesAll width g u (length words) old → (c : ℕ) → c < lanes_of old → DarkensInWords c u words (lane old c) (lane new c)
sent_dark width g u k word words rest old mid new is dark sent reaches c below =
    sent.dark reaches c below (lane new c)
    (subst (λ (l : List (List ℕ)). DarkensInWords c (u + k) l (lane mid c) (lane new c)) (sym is) (inl (dark c (lane_kept old mid c sent.went.kept below))))

-- all are written
pub sent_all : (width : ℕ) (g : Geometry) (u k : ℕ) (words : List (List ℕ)) (old new : BusState) → drop k words ≡ [] → SentWords width g u words k old new → ReachesAll width g u (length words) old
    → (c : ℕ) → c < lanes_of old → lane new c ≡ after_words c u words (lane old c)
sent_all width g u k words old new none sent reaches c below =
    ap (λ (l : List (List ℕ)). after_words c (u + k) l (lane new c)) (sym none) ∙ sent.ends reaches c below

-- a bus that has all the units has the first
pub first_reached : (width : ℕ) (g : Geometry) (u n : ℕ) (bus : BusState) → ReachesAll width g u n bus → Reaches width g u bus
first_reached width g u n bus reaches = let last = reaches.there in record { own = reaches.own; there = omega (arith, last) }
