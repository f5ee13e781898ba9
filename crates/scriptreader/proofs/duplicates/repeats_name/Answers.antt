use Rattle.scriptreader.proofs.RepeatedNames.{first_repeats, second_repeats, third_repeats}
use Rattle.scriptreader.proofs.duplicates.repeats_name.Goals as goal

pub returns-then-first : goal.returns-then-first
returns-then-first c =
    first_repeats c.new-names.result c.args.lines.now c.args.contexts.now c.args.ephemerals.now c.in_ok-first.first c.new-names.ensures c.in_ok-first.ensures.repeats c.if-first.true

pub returns-then-second : goal.returns-then-second
returns-then-second c =
    second_repeats c.new-names.result c.add_all.new.names c.args.lines.now c.args.contexts.now c.args.ephemerals.now c.in_ok-first.first c.in_ok-second.second c.new-names.ensures c.in_ok-first.ensures.repeats c.if-first.false
    (c.in_ok-first.ensures.names c.if-first.false) c.in_ok-second.ensures.repeats c.if-second.true

pub returns : goal.returns
returns c =
    third_repeats c.new-names.result c.add_all.new.names c.add_all-2.new.names c.args.lines.now c.args.contexts.now c.args.ephemerals.now c.in_ok-first.first c.in_ok-second.second c.in_ok-third.third
    c.new-names.ensures c.in_ok-first.ensures.repeats c.if-first.false (c.in_ok-first.ensures.names c.if-first.false) c.in_ok-second.ensures.repeats c.if-second.false (c.in_ok-second.ensures.names c.if-second.false) c.in_ok-third.ensures.repeats
