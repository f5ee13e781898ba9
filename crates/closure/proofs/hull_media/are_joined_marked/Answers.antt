-- Those of each line are.
use Rattle.std.proofs.Common.{◌∙◌, ℕ, List, map, ap, subst}
use Rattle.mg_model.specs.Tables.{state_of}
use Rattle.configuration.specs.Config.{configuration_of}
use Rattle.configuration.specs.Packed.{Words}
use Rattle.closure.specs.Hulls.{AreHullLinesMarked}
use Rattle.closure.proofs.HullMedia.{all_hull_marked}
use Rattle.closure.proofs.hull_media.are_joined_marked.Goals as goal

pub returns : goal.returns
returns c holds =
    let of_all : (i : ℕ) → AreHullLinesMarked c.talk_of-talk.result.now c.lines-lines.result (map configuration_of c.of-hops.result) i
    → AreHullLinesMarked c.talk_of-talk.result.now c.lines-lines.result (map configuration_of c.args.hull.now) i =
    λ i. subst (λ (words : List Words). AreHullLinesMarked c.talk_of-talk.result.now c.lines-lines.result (map configuration_of words) i) c.of-hops.ensures in
    all_hull_marked c.args.script.now (map configuration_of c.args.hull.now) (configuration_of c.args.one.now) c.requires c.talk_of-talk.result.now
    c.lines-lines.result c.lines-lines.ensures.value c.lines-lines.ensures.few
    (c.talk_of-talk.ensures ∙ ap (λ (state : ℕ). (state_of c.args.script.now state).talk) c.state.ensures)
    (of_all 0 (rw c.all.ensures at (c.is_line_marked.ensures c.if-not-is_line_marked.false)))
    (of_all 1 (rw c.all.ensures at (c.is_line_marked-2.ensures c.if-not-is_line_marked-2.false)))
    (of_all 2 (rw c.all.ensures at (c.is_line_marked-3.ensures c.if-not-is_line_marked-3.false)))
    (of_all 3 (rw c.all.ensures at (c.is_line_marked-4.ensures holds)))
