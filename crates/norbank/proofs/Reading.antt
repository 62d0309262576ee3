-- What comes of a bank that was opened.
use Rattle.std.proofs.Common.{◌≡◌, ◌<◌, ◌≤◌, ◌+◌, ◌∙◌, inl, inr, ℕ, List, [], ◌∷◌, refl, sym, ap, Option, Some, Result, Err}
use Rattle.nor_cell.proofs.Logic.{passes_below, fails_behind}
use Rattle.nor_cell.specs.Chip.{ChipState}
use Rattle.nor_bus.specs.Bus.{bank_size}
use Rattle.nor_io.specs.Files.{SinkState}
use Rattle.nor_io.specs.Puts.{PutsText}
use Rattle.nor_io.specs.declared.sink.SinkError.{SinkError}
use Rattle.nor_probe.specs.Probed.{refusal, IsFoundOn}
use Rattle.nor_probe.specs.declared.error.ProbeError.{ProbeError}
use Rattle.nor_probe.specs.declared.probing.Found.{Found}
use Rattle.norbank.specs.Does.{of_put}
use Rattle.norbank.specs.Opened.{StopsBy, PutsFree}
use Rattle.norbank.specs.Stops.{probe_stop, range_stop}
use Rattle.norbank.specs.declared.stop.Done.{Done}
use Rattle.norbank.specs.declared.stop.Stop.{Stop}
use Rattle.norbank.specs.declared.stop.Stop.TheVariants.{Unfound, OutOfRange}
use Rattle.norbank.proofs.Stopping.{stops_at, first_none, map_some, when_true, when_false, probe_free}

-- probing refuses it
pub unfound : (rest : List (Option Stop)) (width : ℕ) (chips : List ChipState) (out : SinkState) (e : ProbeError) (stop : Stop) → refusal width chips ≡ Some e → stop ≡ Unfound e
    → StopsBy (probe_stop width chips ∷ rest) out out (Err stop)
unfound rest width chips out e stop refused is = record {
  stop = stop;
  is = refl;
  first = stops_at (probe_stop width chips ∷ rest) stop (inl (map_some Unfound (refusal width chips) e refused ∙ ap (λ (s : Stop). Some s) (sym is)));
  silent = refl;
}

-- the range isn't in it
pub past : (width : ℕ) (chips : List ChipState) (at len : ℕ) (out : SinkState) (found : Found) → IsFoundOn width chips found → bank_size chips < at + len
    → StopsBy (probe_stop width chips ∷ range_stop chips at len ∷ []) out out (Err OutOfRange)
past width chips at len out found is beyond = record {
  stop = OutOfRange;
  is = refl;
  first = stops_at (probe_stop width chips ∷ range_stop chips at len ∷ []) OutOfRange
      (inr (probe_free width chips found is, inl (when_true _ OutOfRange (passes_below (bank_size chips) (at + len) beyond))));
  silent = refl;
}

-- bytes of it were put
pub inside : (width : ℕ) (chips : List ChipState) (at len : ℕ) (text : List ℕ) (before after : SinkState) (result : Result Done Stop) (put : Result (Unit {0}) SinkError) (found : Found)
    → IsFoundOn width chips found → at + len ≤ bank_size chips → PutsText text before after put → result ≡ of_put put
    → PutsFree (probe_stop width chips ∷ range_stop chips at len ∷ []) text before after result
inside width chips at len text before after result put found is within puts so = record {
  free = first_none (probe_stop width chips ∷ range_stop chips at len ∷ [])
      (probe_free width chips found is, (when_false _ OutOfRange (fails_behind (bank_size chips) (at + len) within), tt));
  put = put;
  puts = puts;
  is = so;
}

-- what it is was put
pub told : (width : ℕ) (chips : List ChipState) (text : List ℕ) (before after : SinkState) (result : Result Done Stop) (put : Result (Unit {0}) SinkError) (found : Found)
    → IsFoundOn width chips found → PutsText text before after put → result ≡ of_put put
    → PutsFree (probe_stop width chips ∷ []) text before after result
told width chips text before after result put found is puts so = record {
  free = first_none (probe_stop width chips ∷ []) (probe_free width chips found is, tt);
  put = put;
  puts = puts;
  is = so;
}
