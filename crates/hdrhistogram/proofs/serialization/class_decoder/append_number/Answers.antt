use Rattle.std.proofs.Common.{◌≡◌, true, map, pos, rules, subst, w64}
use mir.Val.{SFits}
use lib.Signed.{lt_z}
use Rattle.std.proofs.lemmas.Int.{to_z-of_z}
use Rattle.hdrhistogram.specs.ClassesRead.{times_of}
use Rattle.hdrhistogram.proofs.ClassesReadFacts.{on_any, run-classes}
use Rattle.hdrhistogram.proofs.serialization.class_decoder.append_number.Goals as goal

pub returns-then-number-lt0-clause-appended : goal.returns-then-number-lt0-clause-appended
returns-then-number-lt0-clause-appended c =
    let fits : SFits w64 c.args.number = search rules in
    on_any c.ok_or.result (run-classes c.args.scale c.args.place c.args.number (map times_of c.args.classes.now.items) (subst (λ z. lt_z z (pos 0) ≡ true) (to_z-of_z w64 c.args.number fits) c.if-number-lt0.true))
