use Rattle.std.proofs.Common.{◌≡◌, ◌∙◌, ◌+◌, ◌++◌, ◌∷◌, [], get_or, take, ap, arith}
use Rattle.hdr_view.specs.Naming.{times, times_in}
use Rattle.hdr_view.proofs.Times.{one, times-next, times-push}
use Rattle.hdr_view.proofs.naming.push_singles.Goals as goal

pub loop-index-preserved : goal.loop-index-preserved
loop-index-preserved c =
    let i = c.loop-index.index-index in
    let single = c.args.single.now in
    let x = get_or single i 0 in (
      λ index.
          let next : times index (take (i + 1) single) ≡ times index (take i single) + one index x = times-next index single i 0 c.loop-index-test.true in
          let pushed : times index c.push.new.indices.items ≡ times index [] + one index x =
          ap (times index) (c.in_ok-push.ensures ∙ ap (λ l. l ++ x ∷ []) c.new-all.ensures.items) ∙ times-push index x [] in
          omega (arith, c.in_ok-push_line.ensures.times index, c.loop-index.invariant.0 index),
      λ old. c.in_ok-push_line.ensures.lines (c.loop-index.invariant.1 old),
    )
