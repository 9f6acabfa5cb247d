use Rattle.hdrhistogram.proofs.VarintSpellings.{one_spelling_of}
use Rattle.hdrhistogram.proofs.laws.spellings_end.Goals as goal

pub returns : goal.returns
returns c = one_spelling_of
