use Rattle.std.proofs.Common.{◌≡◌, ◌∙◌, ◌≤◌, ◌++◌, ap, sym, subst, arith}
use Rattle.hdr_model.specs.Plain.{Plain, resolution, reach, max_of}
use Rattle.hdr_model.specs.Merging.{after_add_within, with_room}
use Rattle.hdr_model.specs.Samples.{StandsFor}
use Rattle.hdr_model.proofs.MergingKeeps.{merged-none, merged-some, with_room-reach}
use Rattle.hdr_model.proofs.MergingStands.{StandsFor-merged, merged-high, resolution-merged, stands-none}
use Rattle.hdr_core.proofs.histogram.Histogram.add_from.Goals as goal

pub returns-then-source-eq0-clause-ok : goal.returns-then-source-eq0-clause-ok
returns-then-source-eq0-clause-ok g c = sym (merged-none g.T.Counter.greatest c.args.self.now c.args.source.now (sym (ap (λ (p : Plain). p.total) c.source.view_is) ∙ c.if-source-eq0.true))

pub returns-then-source-eq0-clause-samples : goal.returns-then-source-eq0-clause-samples
returns-then-source-eq0-clause-samples g c = λ L source fine S stands fits.
    stands-none c.args.self.now c.args.source.now S L (sym (ap (λ (p : Plain). p.total) c.source.view_is) ∙ c.if-source-eq0.true) stands source

pub returns-then-source-eq0-clause-high : goal.returns-then-source-eq0-clause-high
returns-then-source-eq0-clause-high g c =
    ap (λ (w : Plain). w.high) (returns-then-source-eq0-clause-ok g c) ∙ merged-high g.T.Counter.greatest g.F.Counter.greatest c.args.self.now c.args.source.now (rw c.source.view_is at c.source.invariant.plain)

pub take_in-requires : goal.take_in-requires
take_in-requires g c =
    let new : c.resize_for_add.new.self ≡ with_room c.args.self.now (max_of c.args.source.now) = c.in_ok-resize_for_add.ensures.ok ∙ ap (λ x. with_room c.args.self.now x) c.max.ensures.value in
    subst (λ w. max_of c.args.source.now ≤ reach w) (sym new) (with_room-reach c.args.self.now (max_of c.args.source.now))

pub returns-clause-ok : goal.returns-clause-ok
returns-clause-ok g c =
    let greatest = g.T.Counter.greatest in
    let s = c.args.source.now in
    let new : c.resize_for_add.new.self ≡ with_room c.args.self.now (max_of s) = c.in_ok-resize_for_add.ensures.ok ∙ ap (λ x. with_room c.args.self.now x) c.max.ensures.value in
    c.take_in.ensures ∙ ap (λ w. after_add_within greatest w s) new
    ∙ sym (merged-some greatest c.args.self.now s (λ e. c.if-source-eq0.false (ap (λ (p : Plain). p.total) c.source.view_is ∙ e)))

pub returns-clause-same_classes : goal.returns-clause-same_classes
returns-clause-same_classes g c =
    ap (λ (p : Plain). resolution p) (returns-clause-ok g c) ∙ resolution-merged g.T.Counter.greatest g.F.Counter.greatest c.args.self.now c.args.source.now (rw c.source.view_is at c.source.invariant.plain)

pub returns-clause-samples : goal.returns-clause-samples
returns-clause-samples g c = λ L source fine S stands fits.
    let greatest = g.T.Counter.greatest in
    let s = c.args.source.now in
    subst (λ w. StandsFor w (S ++ L)) (sym (returns-clause-ok g c))
    (StandsFor-merged greatest g.F.Counter.greatest c.args.self.now s S L g.met.T.Counter.one_fits c.resize_for_add.ensures.plain (rw c.source.view_is at c.source.invariant.plain)
    (omega (arith, c.max.ensures.value, c.max.type_inv)) stands source fine fits)

pub returns-clause-high : goal.returns-clause-high
returns-clause-high g c =
    ap (λ (w : Plain). w.high) (returns-clause-ok g c) ∙ merged-high g.T.Counter.greatest g.F.Counter.greatest c.args.self.now c.args.source.now (rw c.source.view_is at c.source.invariant.plain)
