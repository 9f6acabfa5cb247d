use Rattle.std.proofs.Common.{◌∙◌, ◌+◌, List, get_or, drop, map, sym, ap, arith}
use Rattle.std.proofs.lemmas.List.{at_drop_more, at_drop_all}
use Rattle.hdrhistogram.specs.ClassesRead.{times_of}
use Rattle.hdrhistogram.specs.declared.serialization.class_decoder.RecordedClass.{RecordedClass}
use Rattle.hdr_figures.proofs.ClassRanks.{found, found-here, found-later, found-is}
use Rattle.hdr_figures.proofs.classes.value_of_rank.Goals as goal

abbrev no_class : RecordedClass
no_class = record { value = 0; count = 0 }

pub loop-class-preserved : goal.loop-class-preserved
loop-class-preserved c =
    let xs = c.args.classes.now in
    let i = c.loop-class.class-index in
    let r = c.loop-class.rank in
    let class = get_or xs i no_class in
    let next = at_drop_more (λ (l : List RecordedClass). found r (map times_of l)) xs i no_class c.loop-class-test.true in
    record {
      some = omega arith;
      rest = sym (next ∙ found-later r (times_of class) (map times_of (drop (i + 1) xs)) c.if-rank-class.false) ∙ c.loop-class.invariant.rest;
    }

pub returns-then-rank-class : goal.returns-then-rank-class
returns-then-rank-class c = λ g counts are.
    let xs = c.args.classes.now in
    let i = c.loop-class.class-index in
    let r = c.loop-class.rank in
    let class = get_or xs i no_class in
    let next = at_drop_more (λ (l : List RecordedClass). found r (map times_of l)) xs i no_class c.loop-class-test.true in
    sym (next ∙ found-here r (times_of class) (map times_of (drop (i + 1) xs)) c.if-rank-class.true) ∙ c.loop-class.invariant.rest
    ∙ ap (found c.args.rank) are ∙ found-is g counts c.args.rank c.requires

pub returns : goal.returns
returns c = λ g counts are.
    sym (at_drop_all (λ (l : List RecordedClass). found c.loop-class.rank (map times_of l)) c.args.classes.now c.loop-class.class-index c.loop-class-test.false)
    ∙ c.loop-class.invariant.rest ∙ ap (found c.args.rank) are ∙ found-is g counts c.args.rank c.requires
