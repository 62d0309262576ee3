-- Histories grow call by call.
use Rattle.std.specs.Prelude.{ℕ, List, [], ◌∷◌, ◌++◌, false}
use Rattle.nor_array.specs.Array.{ArrayState}
use Rattle.nor_array.specs.After.{after_all}
use Rattle.nor_array.specs.declared.entry.Entry.{Entry}
use Rattle.nor_array.specs.declared.entry.Op.{Op}
use Rattle.nor_array.specs.declared.entry.Reply.{Reply}
use Rattle.nor_bank.specs.Calls.{entry_of}
use Rattle.nor_bank.specs.Stands.{Stands}
use Rattle.nor_bank.specs.State.{BankState}
use Rattle.nor_bank.specs.Work.{KeepsBank}
use Rattle.nor_history.specs.Bounds.{Step, Tally, ReadsWords, Fits, Goes, entries_of, steps_as, tally_all}
use Rattle.nor_history.specs.Histories.{Makes, Leads}

-- a call that was made is a history of its one entry
abbrev pub OneCallLeads : Type 0
OneCallLeads = (caller : ℕ) (op : Op) (old new : BankState) (reply : Reply) (given : List ℕ) (a : ArrayState)
    → Makes caller op old new reply given → Stands old a
    → Leads (entry_of old new caller op reply given ∷ []) old new a

-- one history behind another is a history
abbrev pub HistoriesFollow : Type 0
HistoriesFollow = (xs ys : List Entry) (old mid new : BankState) (a : ArrayState) → KeepsBank old mid
    → Leads xs old mid a → Leads ys mid new (after_all a xs) → Leads (xs ++ ys) old new a

-- A call keeps the bounds, behind all that was counted, and what is then counted fits the bank.
abbrev pub OneCallKeepsBounds : Type 0
OneCallKeepsBounds = (caller : ℕ) (op : Op) (old new : BankState) (reply : Reply) (given : List ℕ) (a : ArrayState)
    (t : Tally) → Makes caller op old new reply given → Stands old a → ReadsWords op reply old new → Fits t old
    → Goes (steps_as false (entry_of old new caller op reply given ∷ [])) old new a t

-- steps behind others keep them
abbrev pub StepsFollow : Type 0
StepsFollow = (xs ys : List Step) (old mid new : BankState) (a : ArrayState) (t : Tally) → KeepsBank old mid
    → Goes xs old mid a t → Goes ys mid new (after_all a (entries_of xs)) (tally_all old a t xs)
    → Goes (xs ++ ys) old new a t
