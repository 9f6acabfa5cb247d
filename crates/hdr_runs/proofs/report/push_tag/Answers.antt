use Rattle.std.proofs.Common.{◌≡◌, false, true}
use Rattle.std.specs.List.{list_any}
use Rattle.std.specs.Option.{option_copied}
use Rattle.hdr_logs.specs.Sums.{is_same_tag}
use Rattle.hdr_runs.proofs.Reports.{with_new, with_old}
use Rattle.hdr_runs.proofs.report.push_tag.Goals as goal

pub returns-in_ok-push-clause-tags : goal.returns-in_ok-push-clause-tags
returns-in_ok-push-clause-tags c =
    let tags = c.args.tags.now.items in
    let none : list_any (λ other. is_same_tag (option_copied other) (option_copied c.args.tag)) tags ≡ false =
    cc (c.has_tag.ensures, c.if-not-has_tag.true, c.deref.ensures.value) in
    rw (c.in_ok-push.ensures.items) (with_new option_copied (λ other. is_same_tag other (option_copied c.args.tag)) tags c.args.tag none)

pub returns-else-not-has_tag-clause-tags : goal.returns-else-not-has_tag-clause-tags
returns-else-not-has_tag-clause-tags c =
    let tags = c.args.tags.now.items in
    let some : list_any (λ other. is_same_tag (option_copied other) (option_copied c.args.tag)) tags ≡ true =
    cc (c.has_tag.ensures, c.if-not-has_tag.false, c.deref.ensures.value) in
    with_old option_copied (λ other. is_same_tag other (option_copied c.args.tag)) tags c.args.tag some
