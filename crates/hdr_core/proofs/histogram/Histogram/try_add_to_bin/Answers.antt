use Rattle.std.proofs.Common.{◌≡◌, ◌∙◌, ◌+◌, ◌<◌, ℕ, min, length, Option, None, Some, IfSome, ap, sym, subst, refl, arith, set, get_or}
use Rattle.hdr_counts.specs.Blocks.{Blocks}
use Rattle.hdr_model.specs.Marks.{MarkPair, later_mark}
use Rattle.hdr_core.specs.Shown.{plain_of}
use Rattle.hdr_model.specs.Plain.{Plain}
use Rattle.hdr_model.specs.Recording.{after_add_to_bin}
use Rattle.hdr_model.proofs.PlainKept.{added-parts}
use Rattle.hdr_core.proofs.histogram.Histogram.try_add_to_bin.Given as given
use Rattle.hdr_core.proofs.histogram.Histogram.try_add_to_bin.Goals as goal
use Rattle.hdr_core.proofs.histogram.Histogram.try_add_to_bin.Goals.{Else-not-enclose, In-Some-try_add}

-- a class that leaves the top mark as it is has a bin, since the mark has one
class-inside : (top : Option ℕ) (i n : ℕ) → later_mark top i ≡ top → IfSome top (λ m. m < n) → i < n
class-inside None i n e low = grind arith
class-inside (Some m) i n e low = grind arith

inside : (g : given.Over) (c : Else-not-enclose g) → c.args.bin < length (plain_of c.self.inside).counts
inside g c = class-inside c.self.inside.marks.top c.args.bin (length (plain_of c.self.inside).counts) (ap (λ (m : MarkPair). m.top) (c.if-not-enclose.ensures refl)) c.self.invariant.plain.top_in_bins

pub try_add-requires : goal.try_add-requires
try_add-requires g c = inside g (goal.at.try_add-requires g c).Else-not-enclose

-- the fields are those of a number added
parts : (g : given.Over) (c : In-Some-try_add g) → plain_of (record c.self.inside { counts = c.try_add.new.self; total = c.in-Some.total }) ≡ after_add_to_bin g.T.Counter.greatest (plain_of c.self.inside) c.args.bin c.args.number
parts g c =
    let h = plain_of c.self.inside in
    let m = c.self.inside.marks in
    let put : c.try_add.new.self.numbers ≡ set h.counts c.args.bin (min (get_or h.counts c.args.bin 0 + c.args.number) g.T.Counter.greatest) =
    ap (λ (b : Blocks). b.numbers) c.in-Some-try_add.ensures.1
    ∙ ap (λ k. set h.counts c.args.bin k) (omega (arith, c.in-Some-try_add.ensures.0)) in
    added-parts g.T.Counter.greatest h c.args.bin c.args.number c.try_add.new.self.numbers c.in-Some.total m.top m.lower put (omega (arith, c.in-Some.ensures))
    (sym (ap (λ (m : MarkPair). m.top) (c.if-not-enclose.ensures refl))) (sym (ap (λ (m : MarkPair). m.lower) (c.if-not-enclose.ensures refl)))

pub returns : goal.returns
returns g c =
    let low = inside g (goal.at.returns g c).Else-not-enclose in (
      subst (λ (h : Plain). c.args.bin < length h.counts) c.self.view_is low,
      parts g (goal.at.returns g c).In-Some-try_add ∙ ap (λ (h : Plain). after_add_to_bin g.T.Counter.greatest h c.args.bin c.args.number) c.self.view_is,
    )
