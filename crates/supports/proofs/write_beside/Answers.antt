-- The x frames, then the y frames, which start where those end.
-- Assumes nothing.
use borrow.Author.Rules.{rules}
use Rattle.tables.proofs.Runs.{both_ways}
use Rattle.supports.specs.Governing.{last_of, supports_of, support_count, governed}
use Rattle.supports.proofs.Lines.{supporting_in}
use Rattle.supports.proofs.write_beside.Goals as goal

pub write_lines-requires-2 : goal.write_lines-requires-2
write_lines-requires-2 c = supporting_in c.requires _ (search rules)

pub returns : goal.returns
unfolding governed support_count
returns c =
    let b = c.args.b in
    both_ways (supports_of b) (last_of b) _ _ _ _ c.write_lines.ensures c.write_lines-2.ensures
