-- So many numbers always suffice (Most); fewer are held against the count.
-- Assumes nothing.
use Rattle.broken.proofs.Answers.{counted_room}
use Rattle.broken.proofs.Most.{sure_room}
use Rattle.broken.proofs.has_room.Goals as goal

pub returns-then-length-ge-SUFFICES : goal.returns-then-length-ge-SUFFICES
returns-then-length-ge-SUFFICES c = sure_room _ _ c.if-length-ge-SUFFICES.true

pub returns : goal.returns
returns c = counted_room _ _ c.list_all-n.ensures.0.count
