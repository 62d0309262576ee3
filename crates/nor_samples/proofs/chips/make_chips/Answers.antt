use Rattle.std.proofs.Common.{◌≡◌, ◌++◌, ◌∷◌, [], List, length, map, subst, sym, ap, ◌+◌, ◌∙◌}
use Rattle.std.proofs.lemmas.List.{length_push, map_push}
use Rattle.std.proofs.lemmas.List.Elements.{All-push}
use Rattle.std.specs.List.{All}
use Rattle.nor_cell.specs.Chip.{ChipState}
use Rattle.nor_samples.specs.Alike.{IsAlike}
use Rattle.nor_samples.proofs.chips.make_chips.Goals as goal

pub loop-lane-preserved : goal.loop-lane-preserved
loop-lane-preserved g c =
    let before = map g.C.Chip.state c.loop-lane.chips.items in
    let chip = g.C.Chip.state c.made.result in
    let pushed : map g.C.Chip.state c.push.new.self.items ≡ before ++ chip ∷ [] =
    ap (λ xs. map g.C.Chip.state xs) c.in_ok-push.ensures.items ∙ map_push g.C.Chip.state c.loop-lane.chips.items c.made.result in
    let alike : IsAlike c.args.setup.geometry.device chip = record {
      device = c.made.ensures.device ∙ c.in_ok-cells_of.ensures.device;
      size = c.made.ensures.size ∙ c.in_ok-cells_of.ensures.size;
    } in
    record {
      count = ap (λ (xs : List ChipState). length xs) pushed ∙ length_push before chip ∙ ap (λ n. n + 1) c.loop-lane.invariant.count;
      alike = subst (λ (xs : List ChipState). All (IsAlike c.args.setup.geometry.device) xs) (sym pushed)
          (All-push (IsAlike c.args.setup.geometry.device) before chip c.loop-lane.invariant.alike alike);
    }
