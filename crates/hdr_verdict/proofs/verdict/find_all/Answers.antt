use Rattle.std.proofs.Common.{rules, ◌≡◌, ◌∙◌, ◌+◌, ◌++◌, ◌∷◌, [], List, length, map, append_assoc, append-nil, refl, ap, sym, subst, arith}
use Rattle.std.specs.Vec.Iter.{into_iter_items}
use Rattle.hdr_verdict.specs.Episodes.{EpisodeValue, view_of_episode}
use Rattle.hdr_verdict.specs.Verdicts.{AreFound, HasEpisodes}
use Rattle.hdr_verdict.specs.declared.tags.Tag.{Tag}
use Rattle.hdr_verdict.specs.declared.verdict.TagFindings.{TagFindings}
use Rattle.std.proofs.lemmas.List.{length_push}
use Rattle.hdr_verdict.proofs.TagParts.{no-items}
use Rattle.hdr_verdict.proofs.verdict.find_all.Goals as goal

pub loop-tag-preserved : goal.loop-tag-preserved
loop-tag-preserved c = λ found more rest.
    let bar = c.args.bar in
    let levels = c.args.levels.now in
    let end = c.args.log_end in
    let old = c.loop-tag.all.items in
    let episodes = map view_of_episode c.loop-tag.episodes.items in
    let one = c.in_ok-found.found in
    let own = map view_of_episode c.in_ok-found.own.items in
    let behind = into_iter_items c.next.new.self in
    let index : c.len-index.result ≡ length old = omega (arith, c.len-index.ensures) in
    let many : length c.push.new.self.items ≡ length old + 1 = ap length c.in_ok-push.ensures.items ∙ length_push old one in
    let next : AreFound bar levels end (length old + 1) behind found more = subst (λ n. AreFound bar levels end n behind found more) many rest in
    let has = subst (λ n. HasEpisodes bar end n c.in-Some.tag one own) index c.in_ok-found.ensures.episodes in
    let front : AreFound bar levels end (length old) (c.in-Some.tag ∷ behind) (one ∷ found) (own ++ more) = (one, found, own, more, refl, refl, c.in_ok-found.ensures.found, has, next) in
    let all : AreFound bar levels end (length old) (into_iter_items c.loop-tag.tag-iterator) (one ∷ found) (own ++ more) = subst (λ l. AreFound bar levels end (length old) l (one ∷ found) (own ++ more)) (sym c.in-Some.ensures.steps.0) front in
    let before : AreFound bar levels end 0 c.args.tags.items (old ++ one ∷ found) (episodes ++ (own ++ more)) = c.loop-tag.invariant (one ∷ found) (own ++ more) all in
    let list : old ++ one ∷ found ≡ c.push.new.self.items ++ found = sym (append_assoc old (one ∷ []) found) ∙ ap (λ l. l ++ found) (sym c.in_ok-push.ensures.items) in
    let both : episodes ++ (own ++ more) ≡ map view_of_episode c.push_episodes.new.episodes.items ++ more = sym (append_assoc episodes own more) ∙ ap (λ l. l ++ more) (sym c.in_ok-push_episodes.ensures) in
    subst (λ l. AreFound bar levels end 0 c.args.tags.items l (map view_of_episode c.push_episodes.new.episodes.items ++ more)) list
    (subst (AreFound bar levels end 0 c.args.tags.items (old ++ one ∷ found)) both before)

pub returns : goal.returns
returns c =
    let bar = c.args.bar in
    let levels = c.args.levels.now in
    let end = c.args.log_end in
    let all = c.loop-tag.all.items in
    let episodes = map view_of_episode c.loop-tag.episodes.items in
    let none : into_iter_items c.loop-tag.tag-iterator ≡ [] = no-items (into_iter_items c.loop-tag.tag-iterator) (omega (arith, c.in-None.ensures.steps)) in
    let last : AreFound bar levels end (length all) (into_iter_items c.loop-tag.tag-iterator) [] [] = subst (λ l. AreFound bar levels end (length all) l [] []) (sym none) (refl, refl) in
    subst (λ l. AreFound bar levels end 0 c.args.tags.items l episodes) (append-nil all)
    (subst (AreFound bar levels end 0 c.args.tags.items (all ++ [])) (append-nil episodes) (c.loop-tag.invariant [] [] last))
