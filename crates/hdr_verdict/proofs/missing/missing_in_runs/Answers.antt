use Rattle.std.proofs.Common.{◌++◌, length, take, option_to_list, ap, sym, ◌∙◌, arith}
use Rattle.std.specs.List.{filter_map}
use Rattle.std.proofs.lemmas.List.Elements.{All-append, All-same}
use Rattle.hdr_verdict.specs.declared.runs.Run.{Run}
use Rattle.hdr_verdict.specs.Missing.{missing_in, IsTimeWithin}
use Rattle.hdr_verdict.proofs.FilterMaps.{filter_map-more, All-option}
use Rattle.hdr_verdict.proofs.missing.missing_in_runs.Goals as goal

abbrev no_run : Run
no_run = record { start = 0; end = 0 }

pub loop-run-preserved : goal.loop-run-preserved
loop-run-preserved c =
    let step = missing_in c.args.rates.now c.args.usual.now in
    let P = IsTimeWithin (length c.args.rates.now) in
    record {
      so_far = c.in_ok-push_some.ensures
          ∙ ap (λ xs. xs ++ option_to_list c.missing_in.result) c.loop-run.invariant.so_far
          ∙ ap (λ x. filter_map step (take c.loop-run.run-index c.args.runs.now) ++ option_to_list x) c.missing_in.ensures.value
          ∙ sym (filter_map-more step c.args.runs.now c.loop-run.run-index no_run (omega arith));
      within = All-same P _ _ c.in_ok-push_some.ensures (All-append P _ _ c.loop-run.invariant.within (All-option P c.missing_in.result c.missing_in.ensures.within));
    }
