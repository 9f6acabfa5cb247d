use Rattle.std.proofs.Common.{ℕ, ◌+◌, ◌-◌, arith, rules, ap, refl, length, take, drop, length-take, length-drop, sym, ◌∙◌, subst, w64}
use Rattle.std.proofs.lemmas.List.{take_rest}
use Rattle.std.proofs.lemmas.Int.{to_z-of_z}
use Rattle.std.proofs.lemmas.Result.{err_from_is_err_and}
use mir.Val.{SFits}
use Rattle.hdrhistogram.specs.Defects.{defect_of_error, FailsBy}
use Rattle.hdrhistogram.specs.PayloadRead.{IsCut, IsNumberPut, IsPairPut, counts_in}
use Rattle.hdr_model.specs.Unfinished.{Unfinished}
use Rattle.hdrhistogram.proofs.VarintSpellings.{some_byte}
use Rattle.hdrhistogram.proofs.V2ReadRestated.{set-again}
use Rattle.hdrhistogram.proofs.PayloadReadFilling.{IsFilledTo, fill_start, fill_short, fill_pair, fill_next, fill_defective, fill_end, fill_cut, fails_so, gives_fails}
use Rattle.hdrhistogram.proofs.serialization.payload_decoder.decode_counts.Goals as goal

pub loop-at-init : goal.loop-at-init
loop-at-init g c =
    let f = c.args.builder.now in
    record { filled = fill_start (length f.counts) g.T.Counter.greatest c.args.payload.now f.counts c.requires; rest = refl }

pub returns-in_default-varint_at-clause-counts : goal.returns-in_default-varint_at-clause-counts
returns-in_default-varint_at-clause-counts g c =
    let p = c.args.payload.now in
    let rest : IsCut (drop c.loop-at.at p) = subst IsCut (take_rest p c.loop-at.at) c.in_default-varint_at.ensures.cut in
    subst (λ o. FailsBy o (counts_in (length c.args.builder.now.counts) g.T.Counter.greatest p)) (sym c.unexpected_eof.ensures.defect)
    (fill_cut (length c.args.builder.now.counts) g.T.Counter.greatest p c.loop-at.builder.counts c.loop-at.at c.loop-at.place c.loop-at.invariant.filled c.loop-at-test.true rest)

pub returns-in_err-place-clause-counts : goal.returns-in_err-place-clause-counts
returns-in_err-place-clause-counts g c =
    let p = c.args.payload.now in
    let bins = length c.args.builder.now.counts in
    let at = c.loop-at.at in
    let same = ap (λ (o : Unfinished). o.counts) (c.in_default-put_short.ensures.unchanged ∙ (c.put_pair.ensures.unchanged c.if-put_pair.false ∙ c.in_default.ensures.unchanged)) in
    let d = subst (λ l. IsFilledTo bins g.T.Counter.greatest p l at c.loop-at.place) (sym same) c.loop-at.invariant.filled in
    let z = c.zig_zag_decode.result in
    let fits : SFits w64 z = search rules in
    let q = err_from_is_err_and c.from_residual.result c.from_residual.ensures.1 in
    gives_fails _ c.from_residual.result q.0 c.in_err-place.field-0.0 (counts_in bins g.T.Counter.greatest p) q.1 q.2
    (fails_so (defect_of_error c.in_err-place.field-0.0) _ (counts_in bins g.T.Counter.greatest p) c.in_err-place.ensures.defect (λ f e.
    fill_defective bins g.T.Counter.greatest p c.put_short.new.builder.counts _ at c.loop-at.place c.in-Some-varint_at.len c.in-Some-varint_at.encoded _ f d
    (omega (arith, c.in-Some-varint_at.ensures.within, length-take (length p - at) (drop at p))) (ap (take c.in-Some-varint_at.len) (take_rest p at)) c.in-Some-varint_at.ensures.found
    (to_z-of_z w64 z fits ∙ c.zig_zag_decode.ensures) e))

pub loop-at-smaller : goal.loop-at-smaller
loop-at-smaller g c = omega (arith, some_byte 8 _ c.in-Some-varint_at.ensures.found.whole, c.in-Some-varint_at.ensures.within, length-take {A = ℕ}, length-drop {A = ℕ})

pub loop-at-preserved : goal.loop-at-preserved
loop-at-preserved g c =
    let p = c.args.payload.now in
    let bins = length c.args.builder.now.counts in
    let at = c.loop-at.at in
    let same = ap (λ (o : Unfinished). o.counts) (c.in_default-put_short.ensures.unchanged ∙ (c.put_pair.ensures.unchanged c.if-put_pair.false ∙ c.in_default.ensures.unchanged)) in
    let d = subst (λ l. IsFilledTo bins g.T.Counter.greatest p l at c.loop-at.place) (sym same) c.loop-at.invariant.filled in
    let slice = take (length p - at) (drop at p) in
    let z = c.zig_zag_decode.result in
    let fits : SFits w64 z = search rules in
    record {
      filled = fill_next bins g.T.Counter.greatest p c.put_short.new.builder.counts c.apply_number.new.builder.counts (take c.in-Some-varint_at.len slice) at (at + c.in-Some-varint_at.len) c.loop-at.place c.in_ok-place.place c.in-Some-varint_at.len c.in-Some-varint_at.encoded _ d
          (omega (arith, c.in-Some-varint_at.ensures.within, length-take (length p - at) (drop at p))) (ap (take c.in-Some-varint_at.len) (take_rest p at)) c.in-Some-varint_at.ensures.found
          (to_z-of_z w64 z fits ∙ c.zig_zag_decode.ensures) c.in_ok-place.ensures.defect
          (ap (λ (o : Unfinished). o.counts) c.in_ok-place.ensures.put) refl c.in_ok-place.ensures.next;
      rest = set-again c.args.builder.now c.put_short.new.builder c.apply_number.new.builder _ (set-again c.args.builder.now c.put_pair.new.builder c.put_short.new.builder _ (set-again c.args.builder.now c.put_byte.new.builder c.put_pair.new.builder _ (set-again c.args.builder.now c.loop-at.builder c.put_byte.new.builder _ c.loop-at.invariant.rest c.put_byte.ensures.rest) c.put_pair.ensures.rest) c.put_short.ensures.rest) c.in_ok-place.ensures.put;
    }

pub loop-at-smaller-in-Some : goal.loop-at-smaller-in-Some
loop-at-smaller-in-Some g c = omega (arith, c.loop-at-test.true)

pub loop-at-preserved-in-Some : goal.loop-at-preserved-in-Some
loop-at-preserved-in-Some g c =
    let p = c.args.payload.now in
    let bins = length c.args.builder.now.counts in
    let at = c.loop-at.at in
    let put = subst (λ l. IsNumberPut g.T.Counter.greatest c.loop-at.place l c.loop-at.builder.counts c.put_byte.new.builder.counts 1 c.in-Some.moved) (take_rest p at) c.in-Some.ensures.put in
    record {
      filled = fill_short bins g.T.Counter.greatest p c.loop-at.builder.counts c.put_byte.new.builder.counts at (at + 1) c.loop-at.place (c.loop-at.place + c.in-Some.moved) 1 c.in-Some.moved c.loop-at.invariant.filled put refl refl;
      rest = set-again c.args.builder.now c.loop-at.builder c.put_byte.new.builder _ c.loop-at.invariant.rest c.put_byte.ensures.rest;
    }

pub loop-at-preserved-then-put_pair : goal.loop-at-preserved-then-put_pair
loop-at-preserved-then-put_pair g c =
    let p = c.args.payload.now in
    let bins = length c.args.builder.now.counts in
    let at = c.loop-at.at in
    let same = ap (λ (o : Unfinished). o.counts) c.in_default.ensures.unchanged in
    let d = subst (λ l. IsFilledTo bins g.T.Counter.greatest p l at c.loop-at.place) (sym same) c.loop-at.invariant.filled in
    let put = subst (λ l. IsPairPut g.T.Counter.greatest c.loop-at.place l c.put_byte.new.builder.counts c.put_pair.new.builder.counts) (take_rest p at) (c.put_pair.ensures.put c.if-put_pair.true) in
    record {
      filled = fill_pair bins g.T.Counter.greatest p c.put_byte.new.builder.counts c.put_pair.new.builder.counts at (at + 4) c.loop-at.place (c.loop-at.place + 2) d put refl refl;
      rest = set-again c.args.builder.now c.put_byte.new.builder c.put_pair.new.builder _ (set-again c.args.builder.now c.loop-at.builder c.put_byte.new.builder _ c.loop-at.invariant.rest c.put_byte.ensures.rest) c.put_pair.ensures.rest;
    }

pub loop-at-smaller-in-Some-put_short : goal.loop-at-smaller-in-Some-put_short
loop-at-smaller-in-Some-put_short g c = omega (arith, some_byte 8 _ c.in-Some-put_short.ensures.put.spells.whole, c.in-Some-put_short.ensures.put.within, length-take {A = ℕ}, length-drop {A = ℕ})

pub loop-at-preserved-in-Some-put_short : goal.loop-at-preserved-in-Some-put_short
loop-at-preserved-in-Some-put_short g c =
    let p = c.args.payload.now in
    let bins = length c.args.builder.now.counts in
    let at = c.loop-at.at in
    let same = ap (λ (o : Unfinished). o.counts) (c.put_pair.ensures.unchanged c.if-put_pair.false ∙ c.in_default.ensures.unchanged) in
    let d = subst (λ l. IsFilledTo bins g.T.Counter.greatest p l at c.loop-at.place) (sym same) c.loop-at.invariant.filled in
    let put = subst (λ l. IsNumberPut g.T.Counter.greatest c.loop-at.place l c.put_pair.new.builder.counts c.put_short.new.builder.counts c.in-Some-put_short.len c.in-Some-put_short.moved) (take_rest p at) c.in-Some-put_short.ensures.put in
    record {
      filled = fill_short bins g.T.Counter.greatest p c.put_pair.new.builder.counts c.put_short.new.builder.counts at (at + c.in-Some-put_short.len) c.loop-at.place (c.loop-at.place + c.in-Some-put_short.moved) c.in-Some-put_short.len c.in-Some-put_short.moved d put refl refl;
      rest = set-again c.args.builder.now c.put_pair.new.builder c.put_short.new.builder _ (set-again c.args.builder.now c.put_byte.new.builder c.put_pair.new.builder _ (set-again c.args.builder.now c.loop-at.builder c.put_byte.new.builder _ c.loop-at.invariant.rest c.put_byte.ensures.rest) c.put_pair.ensures.rest) c.put_short.ensures.rest;
    }

pub returns-clause-counts : goal.returns-clause-counts
returns-clause-counts g c = fill_end (length c.args.builder.now.counts) g.T.Counter.greatest c.args.payload.now c.loop-at.builder.counts c.loop-at.at c.loop-at.place c.loop-at.invariant.filled c.loop-at-test.false
