use Rattle.std.proofs.Common.{◌≡◌, take}
use Rattle.hdr_model.specs.Plain.{resolution}
use Rattle.hdr_model.specs.Samples.{Fits}
use Rattle.hdr_core.specs.CallsFrom.{after_call_from, IsAcceptedFrom, CallFromTo}
use Rattle.hdr_model.proofs.RunsFacts.{WasRun}
use Rattle.hdr_core.proofs.histogram.Histogram.apply_all_from.Given as goal

abbrev pub invariant-loop-at : goal.invariant-loop-at
invariant-loop-at g l = record {
  same_classes : resolution l.self ≡ resolution l.initial.self;
  same_bounds : (l.self.low ≡ l.initial.self.low) × (l.self.sigfig ≡ l.initial.self.sigfig) × (l.self.auto_resize ≡ l.initial.self.auto_resize);
  run : WasRun (after_call_from g.T.Counter.greatest g.T.Counter.number) IsAcceptedFrom (CallFromTo g.T.Counter.number (resolution l.initial.self)) (Fits g.T.Counter.greatest (resolution l.initial.self)) (take l.at l.calls) l.initial.self l.self;
}
