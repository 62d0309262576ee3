-- Lines of a report, and digits of an address.
use Rattle.std.proofs.Common.{◌≡◌, ◌+◌, ◌<◌, ◌∙◌, ℕ, suc, List, [], ◌++◌, length, drop, false, ap, arith, get_or}
use Rattle.std.specs.Fmt.{digits_onto, digits}
use Rattle.std.proofs.Math.Seq.{drop-cons}
use Rattle.nor_script.specs.Report.{lane_line, lane_lines}

pub all_digits : (n : ℕ) (xs : List ℕ) → xs ≡ [] → digits_onto 64 16 false n xs ≡ digits 16 false n
unfolding digits
all_digits n xs none = ap (digits_onto 64 16 false n) none

-- the line of a lane stands before those behind it
pub next_lane : (lanes : List (ℕ × ℕ)) (k : ℕ) → k < length lanes → lane_lines k (drop k lanes) ≡ lane_line k (get_or lanes k (0, 0)) ++ lane_lines (k + 1) (drop (k + 1) lanes)
next_lane lanes k below =
    let more : suc k ≡ k + 1 = omega arith in
    ap (lane_lines k) (drop-cons lanes k (0, 0) below) ∙ ap (λ (n : ℕ). lane_line k (get_or lanes k (0, 0)) ++ lane_lines (k + 1) (drop n lanes)) more
