-- Those of each other are.
use Rattle.std.proofs.Common.{ℕ, ◌<◌, map, arith, IsTrue}
use Rattle.mg_model.specs.Configuration.{Configuration}
use Rattle.mg_model.specs.Paths.{AreJoined}
use Rattle.mg_model.specs.Tables.{is_marked}
use Rattle.configuration.specs.Config.{configuration_of}
use Rattle.closure.specs.Hulls.{IsInHull}
use Rattle.closure.proofs.StepLists.{of_lines}
use Rattle.closure.proofs.hull_media.is_line_marked.Goals as goal

pub returns : goal.returns
returns c holds j hj d inside hi joined =
    of_lines (λ (n : ℕ). (e : Configuration) → IsInHull (map configuration_of c.args.hops.now) e → c.args.one < c.args.lines → n < c.args.lines
    → AreJoined e c.args.one n → IsTrue (is_marked c.args.talk.now c.args.one n)) c.args.lines (omega (arith, c.requires))
    (rw c.all.ensures at (c.is_pair_marked.ensures c.if-not-is_pair_marked.false))
    (rw c.all.ensures at (c.is_pair_marked-2.ensures c.if-not-is_pair_marked-2.false))
    (rw c.all.ensures at (c.is_pair_marked-3.ensures c.if-not-is_pair_marked-3.false))
    (rw c.all.ensures at (c.is_pair_marked-4.ensures holds)) j hj d inside hi hj joined
