use Rattle.std.proofs.Common.{sym, ap, ◌∙◌}
use Rattle.curve.proofs.Edges.{ended, edge_ended}
use Rattle.curve.proofs.search.furthest_on.Goals as goal

pub returns-in-Low : goal.returns-in-Low
returns-in-Low g c =
    let e = c.first_below-first.ensures in
    let first = c.first_below-first.result in
    c.max.ensures ∙ ap (λ s. ended s first) (sym c.in-Low.is)
    ∙ sym (edge_ended (g.F.Falling.value c.args.f.now c.args.side) c.args.limit first e.lower_bound e.upper_bound e.reached_before e.missed_from c.args.side)

pub returns-in-High : goal.returns-in-High
returns-in-High g c =
    let e = c.first_below-first.ensures in
    let first = c.first_below-first.result in
    c.min.ensures ∙ ap (λ s. ended s first) (sym c.in-High.is)
    ∙ sym (edge_ended (g.F.Falling.value c.args.f.now c.args.side) c.args.limit first e.lower_bound e.upper_bound e.reached_before e.missed_from c.args.side)
