use Rattle.std.proofs.Common.{◌+◌, ◌≤◌, arith}
use Rattle.hdr_base.specs.Classes.{resolution_of, top_of}
use Rattle.hdr_base.proofs.ClassesLaws.{lowest-le, top-of-value, bin-mono, width-pos}
use Rattle.hdr_base.proofs.ClassesScale.{class-end}
use Rattle.hdr_base.proofs.ClassesDigits.{digits-pos-of}
use Rattle.hdr_base.proofs.ClassesFiner.{bin-value_of, lowest-value_of}
use Rattle.hdr_base.proofs.ClassesIntervals.{lowest-first, bin-first, inside-class, next-class}
use Rattle.hdr_base.proofs.laws.intervals.Goals as goal

pub returns-clause-first : goal.returns-clause-first
returns-clause-first c = λ g. (lowest-first g, bin-first g)

pub returns-clause-member : goal.returns-clause-member
returns-clause-member c = λ g v. (lowest-le g v, top-of-value g v)

pub returns-clause-whole : goal.returns-clause-whole
returns-clause-whole c = λ low sigfig scale v x. inside-class (resolution_of low sigfig) v x (digits-pos-of low sigfig)

pub returns-clause-next : goal.returns-clause-next
returns-clause-next c = λ low sigfig scale v. next-class (resolution_of low sigfig) v (digits-pos-of low sigfig)

pub returns-clause-ends : goal.returns-clause-ends
unfolding top_of resolution_of
returns-clause-ends c = λ low sigfig scale v small.
    let fits : (resolution_of low sigfig).unit + (resolution_of low sigfig).digits ≤ 63 = scale.fits in
    omega (arith, class-end (resolution_of low sigfig) v small fits, width-pos (resolution_of low sigfig) v)

pub returns-clause-order : goal.returns-clause-order
returns-clause-order c = λ low sigfig scale a b. bin-mono (resolution_of low sigfig) a b (digits-pos-of low sigfig)

pub returns-clause-numbers : goal.returns-clause-numbers
returns-clause-numbers c = λ low sigfig scale i.
    (bin-value_of (resolution_of low sigfig) i (digits-pos-of low sigfig), lowest-value_of (resolution_of low sigfig) i (digits-pos-of low sigfig))
