use Rattle.nor_array.proofs.Changes.{entry_changes, after_is_array, rest_stays}
use Rattle.nor_array.proofs.laws.entries_change_what_they_name.Goals as goal

pub returns-clause-arrays : goal.returns-clause-arrays
returns-clause-arrays c = λ a e is admits. after_is_array a is e admits

pub returns-clause-rest : goal.returns-clause-rest
returns-clause-rest c = λ a e is admits. rest_stays a is e admits

pub returns-clause-clears : goal.returns-clause-clears
returns-clause-clears c = λ a e p is admits outside. (entry_changes a is e admits).edits.clears p outside
