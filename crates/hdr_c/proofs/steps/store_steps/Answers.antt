use Rattle.std.proofs.Common.{rules, ◌≡◌, ◌<◌, ◌∙◌, ◌∷◌, length, drop, arith}
use Rattle.hdr_c.proofs.StepLaws.{next_stored, value_left, count_left, left_after, left_is_in, none_left}
use Rattle.hdr_c.proofs.steps.store_steps.Goals as goal

pub returns-in_default : goal.returns-in_default
returns-in_default g c =
    let inv = c.loop-done.invariant in
    let none = none_left c.loop-done.done c.args.items (inv.left ∙ c.in_default.ensures.steps.0) in
    record { number = grind (arith, none, inv.within, inv.room, c.min-room.ensures); have_values = inv.values; have_counts = inv.counts }

pub loop-done-preserved : goal.loop-done-preserved
loop-done-preserved g c =
    let inv = c.loop-done.invariant in
    let e : drop c.loop-done.done c.args.items ≡ c.in-Some.item ∷ c.next.new.self = inv.left ∙ c.in-Some.ensures.steps in
    let more = left_is_in c.loop-done.done c.args.items c.next.new.self c.in-Some.item e in
    let first : c.loop-done.done < length c.loop-done.values = search rules in
    let second : c.loop-done.done < length c.loop-done.counts = search rules in
    record {
      left = left_after c.loop-done.done c.args.items c.next.new.self c.in-Some.item e;
      within = omega (arith, more);
      room = search rules;
      values = next_stored _ _ _ c.loop-done.done _ first (c.value_iterated_to.ensures ∙ value_left c.loop-done.done c.args.items c.next.new.self c.in-Some.item e) inv.values;
      counts = next_stored _ _ _ c.loop-done.done _ second (c.count_since_last_iteration.ensures ∙ count_left c.loop-done.done c.args.items c.next.new.self c.in-Some.item e) inv.counts;
    }
