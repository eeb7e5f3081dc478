-- The supports next to a named span are those of one stretch, and where no span is named nothing is to be written (Lines).
-- Assumes nothing.
use mathlib.Core.Path.{◌∙◌}
use borrow.Author.Rules.{rules}
use Rattle.supports.proofs.Lines.{naming, at_supports, line_is, line_left}
use Rattle.supports.proofs.write_line.Goals as goal

pub named_spans-spans-requires : goal.named_spans-spans-requires
named_spans-spans-requires c = naming c.requires c.along.ensures

pub write_supports-requires : goal.write_supports-requires
write_supports-requires c = at_supports c.requires c.along.ensures c.named_spans-spans.ensures (search rules)

pub returns-then-spans : goal.returns-then-spans
returns-then-spans c =
    c.write_supports.ensures
    ∙ line_is c.requires c.along.ensures c.named_spans-spans.ensures (search rules)

pub returns-else-spans : goal.returns-else-spans
returns-else-spans c = line_left c.requires c.along.ensures c.named_spans-spans.ensures c.if-spans.false
