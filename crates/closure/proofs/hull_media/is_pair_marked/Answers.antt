-- They are marked, or never joined.
use Rattle.std.proofs.Common.{◌∙◌, sym}
use Rattle.mg_model.proofs.Cases.{denied}
use Rattle.closure.proofs.HullMedia.{marked_if_joined, never_joined}
use Rattle.closure.proofs.hull_media.is_pair_marked.Goals as goal

pub returns-then-marks_pair : goal.returns-then-marks_pair
returns-then-marks_pair c holds d inside hi hj joined =
    marked_if_joined c.args.talk.now c.args.lines c.args.one c.args.other d (sym c.marks_pair.ensures ∙ c.if-marks_pair.true) hi hj joined

pub returns : goal.returns
returns c holds d inside hi hj joined =
    absurd (never_joined d c.args.one c.args.other (c.may_go.ensures c.if-may_go.false d inside) (c.may_go-2.ensures (denied c.may_go-2.result holds) d inside) joined)
