use Rattle.std.proofs.lemmas.Bool.{not-false}
use Rattle.hdr_iterators.proofs.log.IterPickyIterator.more.Goals as goal

pub returns-clause-end : goal.returns-clause-end
returns-clause-end g c = λ h last w at none. rw (not-false c.args.self.now.done none)
