use Rattle.hdr_base.specs.Classes.{resolution_of}
use Rattle.hdr_base.proofs.ClassesDigits.{digits-pos-of, finer-by}
use Rattle.hdr_base.proofs.ClassesFiner.{finer-bin}
use Rattle.hdr_base.proofs.ClassesIntervals.{equivalent-bin, bin-equivalent}
use Rattle.hdr_base.proofs.laws.finer_classes.Goals as goal

pub returns-clause-finer : goal.returns-clause-finer
unfolding resolution_of
returns-clause-finer c = λ low sigfig base kept unit digits. finer-by low sigfig base kept unit digits

pub returns-clause-classes : goal.returns-clause-classes
returns-clause-classes c = λ low sigfig scale base kept other fine a b e.
    let f = resolution_of low sigfig in
    let g = resolution_of base kept in
    bin-equivalent g a b (digits-pos-of base kept)
    (finer-bin f g fine (digits-pos-of low sigfig) (digits-pos-of base kept) a b (equivalent-bin f a b (digits-pos-of low sigfig) e))
