-- What the polls of both sets tell, in one form.
use Rattle.std.proofs.Common.{◌≡◌, ◌⊎◌, inl, inr, ℕ, sym, ap, subst, ◌∙◌, arith, List}
use Rattle.nor_cell.specs.Chip.{ChipState, Job, is_held, runs}
use Rattle.nor_cell.specs.declared.device.Set.{Set}
use Rattle.nor_cell.specs.declared.device.Set.TheVariants.{Intel}
use Rattle.nor_word.specs.Word.{lane_of}
use Rattle.nor_bus.specs.Bus.{BusState, wide}
use Rattle.nor_poll.specs.Told.{ShowsStatus, TellsStatus, TellsErase, Told, ToldAt, seen, seen_idle}
use Rattle.nor_poll.specs.Toggles.{ShowsToggle, TellsToggle, TellsDatum}
use Rattle.nor_poll.specs.Reads.{TwoOrLate, ReadBy, SomeLeft}
use Rattle.nor_poll.specs.Polled.{Answers, InTime, viewed}
use Rattle.nor_poll.specs.declared.watch.Seen.{Seen}
use Rattle.nor_poll.specs.declared.polling.Polling.{Polling}
use Rattle.nor_poll.specs.declared.polling.Polling.TheVariants.{Status, EraseStatus, Toggle, Data}
use Rattle.nor_poll.proofs.Reading.{told_idle}

status_at : (u : ℕ) (s t : ChipState) (it : Seen) → s.part.set ≡ Intel → Told s it t → ToldAt u s it t
status_at u s t it set h =
    let intel : t.part.set ≡ Intel = ap (λ (x : ChipState). x.part.set) h.looked.rest ∙ set in
    record {
      had = h.had;
      idle = told_idle s t it h;
      is = λ rests.
          h.told ∙ (ap (λ (j : Job). seen (runs j) (is_held t.held) t.flags) (told_idle s t it h rests) ∙ sym (ap (λ (k : Set). seen_idle k u t) intel));
    }

pub by_status : {W : Type 0} (bytes : W → List ℕ) (how : Polling W) (u c : ℕ) (s t : ChipState) (it : Seen) → how ≡ Status → TellsStatus s it t → Answers bytes how u c s → ToldAt u s it (viewed how t)
by_status bytes how u c s t it is h answers =
    let shows : ShowsStatus s = subst (λ (k : Polling _). Answers bytes k u c s) is answers in subst (λ (k : Polling _). ToldAt u s it (viewed k t)) (sym is) (status_at u s t it shows.set (h shows))

pub by_erase : {W : Type 0} (bytes : W → List ℕ) (how : Polling W) (u c : ℕ) (s t : ChipState) (it : Seen) → how ≡ EraseStatus → TellsErase u s it t → Answers bytes how u c s → ToldAt u s it (viewed how t)
by_erase bytes how u c s t it is h answers =
    subst (λ (k : Polling _). ToldAt u s it (viewed k t)) (sym is) (h (subst (λ (k : Polling _). Answers bytes k u c s) is answers))

pub by_toggle : {W : Type 0} (bytes : W → List ℕ) (how : Polling W) (u c : ℕ) (s t : ChipState) (it : Seen) → how ≡ Toggle → TellsToggle u s it t → Answers bytes how u c s → ToldAt u s it (viewed how t)
by_toggle bytes how u c s t it is h answers = subst (λ (k : Polling _). ToldAt u s it (viewed k t)) (sym is) (h (subst (λ (k : Polling _). Answers bytes k u c s) is answers))

pub by_data : {W : Type 0} (bytes : W → List ℕ) (how : Polling W) (datum : W) (u c : ℕ) (s t : ChipState) (it : Seen) → how ≡ Data datum → TellsDatum u (lane_of (wide s) (bytes datum) c) s it t
    → Answers bytes how u c s → ToldAt u s it (viewed how t)
by_data bytes how datum u c s t it is h answers = subst (λ (k : Polling _). ToldAt u s it (viewed k t)) (sym is) (h (subst (λ (k : Polling _). Answers bytes k u c s) is answers))

pub as_toggle : {W : Type 0} (bytes : W → List ℕ) (how : Polling W) (u c : ℕ) (s : ChipState) → how ≡ Toggle → Answers bytes how u c s → ShowsToggle u s
as_toggle bytes how u c s is answers = subst (λ (k : Polling _). Answers bytes k u c s) is answers

toggle_in_time : (old new : BusState) → TwoOrLate old new → ReadBy 1 2 old new ⊎ (ReadBy 1 3 old new × SomeLeft old)
toggle_in_time old new (inl two) = let e = two.enough in inl (record { reads = two.reads; enough = omega (arith, e); few = two.few; went = two.went; each = two.each })
toggle_in_time old new (inr late) =
    let three = late.0 in let e = three.enough in inr (record { reads = three.reads; enough = omega (arith, e); few = three.few; went = three.went; each = three.each }, late.1)

pub by_toggle_in_time : {W : Type 0} (how : Polling W) (old new : BusState) → how ≡ Toggle → TwoOrLate old new → InTime how old new
by_toggle_in_time how old new is h = subst (λ (k : Polling _). InTime k old new) (sym is) (toggle_in_time old new h)
