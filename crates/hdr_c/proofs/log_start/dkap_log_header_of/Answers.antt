use Rattle.std.proofs.Common.{◌≡◌, ◌∙◌, ℕ, Option, Some, None, refl, sym, ap, unwrap_or}
use Rattle.std.specs.Option.{option_map, is_some}
use Rattle.std.specs.Duration.{as_nanos}
use Rattle.std.specs.declared.time.Duration.{Duration}
use Rattle.hdr_c.specs.Headers.{start_in, unit_in, decimals_in}
use Rattle.hdr_c.proofs.HeaderSteps.{found_so_far, found_in_all}
use Rattle.hdr_c.proofs.log_start.dkap_log_header_of.Goals as goal

pub loop-line-preserved : goal.loop-line-preserved
loop-line-preserved c = record {
  start = found_so_far start_in c.loop-line.text.now c.in-Some.line.now c.in-Some.rest.now _ _ _ c.loop-line.invariant.start c.in-Some.ensures.parts c.or-found.ensures.start;
  decimals = found_so_far decimals_in c.loop-line.text.now c.in-Some.line.now c.in-Some.rest.now _ _ _ c.loop-line.invariant.decimals c.in-Some.ensures.parts c.or-found.ensures.decimals;
  unit = found_so_far unit_in c.loop-line.text.now c.in-Some.line.now c.in-Some.rest.now _ _ _ c.loop-line.invariant.unit c.in-Some.ensures.parts c.or-found.ensures.unit;
}

nanos_of : (d : Option Duration) (zero : Duration) → as_nanos zero ≡ 0 → as_nanos (unwrap_or d zero) ≡ unwrap_or (option_map as_nanos d) 0
nanos_of None zero h = h
nanos_of (Some d) zero h = refl

has_nanos : (d : Option Duration) → is_some d ≡ is_some (option_map as_nanos d)
has_nanos None = refl
has_nanos (Some d) = refl

pub returns : goal.returns
returns c =
    let start = found_in_all start_in c.loop-line.text.now _ _ c.loop-line.invariant.start c.in_default.ensures.parts in
    let decimals = found_in_all decimals_in c.loop-line.text.now _ _ c.loop-line.invariant.decimals c.in_default.ensures.parts in
    let unit = found_in_all unit_in c.loop-line.text.now _ _ c.loop-line.invariant.unit c.in_default.ensures.parts in
    record {
      start_time = c.new.ensures.length ∙ ap as_nanos c.unwrap_or.ensures ∙ nanos_of c.loop-line.found.start _ refl ∙ ap (λ found. unwrap_or found 0) start;
      has_start_time = c.is_some.ensures ∙ has_nanos c.loop-line.found.start ∙ ap is_some start;
      decimals = c.unwrap_or-2.ensures ∙ ap (λ found. unwrap_or found 0) decimals;
      unit_nanos = c.unwrap_or-3.ensures ∙ ap (λ found. unwrap_or found 0) unit;
    }
