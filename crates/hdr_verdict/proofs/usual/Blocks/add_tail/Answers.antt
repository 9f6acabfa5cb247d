use Rattle.std.proofs.Common.{◌∙◌, [], map, ap, sym, subst}
use Rattle.std.specs.List.{All}
use Rattle.std.proofs.lemmas.List.{map_push}
use Rattle.std.proofs.lemmas.List.Elements.{All-push}
use Rattle.hdr_verdict.specs.declared.usual.TailValues.{TailValues}
use Rattle.hdr_verdict.specs.Blocks.{AreValuesOf}
use Rattle.hdr_verdict.proofs.usual.Blocks.add_tail.Goals as goal

pub returns-clause-tails : goal.returns-clause-tails
returns-clause-tails c =
    let own : TailValues = record { tail = c.args.tail; values = c.new.result; halves = c.new-2.result } in
    ap (map (λ (own : TailValues). own.tail)) c.in_ok-push.ensures.items ∙ map_push (λ (own : TailValues). own.tail) c.args.self.now.tails.items own

pub returns-clause-none : goal.returns-clause-none
returns-clause-none c = λ width total least b.
    let own : TailValues = record { tail = c.args.tail; values = c.new.result; halves = c.new-2.result } in
    record {
      same_width = b.same_width;
      classes = b.classes;
      part = b.part;
      values = subst (All (AreValuesOf total c.args.self.now.least [])) (sym c.in_ok-push.ensures.items)
          (All-push (AreValuesOf total c.args.self.now.least []) c.args.self.now.tails.items own b.values (record { same_least = least; values = c.new.ensures.items; halves = c.new-2.ensures.items }));
    }
