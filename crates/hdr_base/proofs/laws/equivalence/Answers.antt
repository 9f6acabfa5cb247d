use Rattle.hdr_base.specs.Classes.{resolution_of}
use Rattle.hdr_base.proofs.ClassesDigits.{digits-pos-of}
use Rattle.hdr_base.proofs.ClassesIntervals.{equivalent-bin, bin-equivalent}
use Rattle.hdr_base.proofs.laws.equivalence.Goals as goal

pub returns-clause-numbers : goal.returns-clause-numbers
returns-clause-numbers c = λ low sigfig scale a b.
    (equivalent-bin (resolution_of low sigfig) a b (digits-pos-of low sigfig), bin-equivalent (resolution_of low sigfig) a b (digits-pos-of low sigfig))
