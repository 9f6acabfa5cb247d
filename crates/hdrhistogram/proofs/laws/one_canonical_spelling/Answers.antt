use Rattle.hdrhistogram.proofs.VarintSpellings.{spelt_short, spelling, spelling_least, one_shortest}
use Rattle.hdrhistogram.proofs.laws.one_canonical_spelling.Goals as goal

pub returns-clause-exists : goal.returns-clause-exists
returns-clause-exists c n h = (spelling n, spelling_least n h)

pub returns-clause-unique : goal.returns-clause-unique
returns-clause-unique c = one_shortest

pub returns-clause-short : goal.returns-clause-short
returns-clause-short c = λ n text s. spelt_short n text s
