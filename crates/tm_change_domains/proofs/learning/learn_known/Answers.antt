use Rattle.std.proofs.Common.{◌≡◌, true, sym, ap, ◌∙◌, rules}
use Rattle.std.specs.Prelude.{Option, Some}
use Rattle.tm_rules.specs.Types.{Domain, Entry, LearnReply, Policy}
use Rattle.std.specs.List.{position_from}
use Rattle.tm_rules.specs.Prelude.{adding, count, same_line, with_domain}
use Rattle.tm_change_domains.proofs.Lists.{there_less}
use Rattle.tm_change_domains.proofs.LearnLaws.{IsLearned, learned, kept_here, counts_after, counts_kept, count_flag}
use Rattle.tm_change_domains.proofs.learning.learn_known.Goals as goal

abbrev with_reply : LearnReply → Policy → Option (Policy × LearnReply)
with_reply reply policy = Some (policy, reply)

pub add_counted-requires-clause-there : goal.add_counted-requires-clause-there
add_counted-requires-clause-there c =
    let told : c.reply_in.result ≡ Some LearnReply.Added = search rules in
    let l : IsLearned c.args.policy.now c.args.number c.args.line.now LearnReply.Added = learned c.args.policy.now c.args.number c.args.line.now LearnReply.Added (sym told ∙ c.reply_in.ensures) in
    (l.domain, l.at, c.requires.counted l.domain l.at)

pub add_counted-requires-clause-at : goal.add_counted-requires-clause-at
add_counted-requires-clause-at c domain e =
    let copied : c.in_ok-line-in-Some-Added.line ≡ c.args.line.now = search rules in
    c.requires.at domain e ∙ ap (λ (line : Entry). position_from (λ (entry : Entry). same_line entry line) 0 domain.entries) (sym copied)

pub set_quota-requires : goal.set_quota-requires
set_quota-requires c =
    let told : c.reply_in.result ≡ Some LearnReply.Quota = search rules in
    let l : IsLearned c.args.policy.now c.args.number c.args.line.now LearnReply.Quota = learned c.args.policy.now c.args.number c.args.line.now LearnReply.Quota (sym told ∙ c.reply_in.ensures) in
    there_less c.args.policy.now.domains c.args.number l.domain l.at

pub returns-in_ok-permissions-in-Some-Added-clause-done : goal.returns-in_ok-permissions-in-Some-Added-clause-done
returns-in_ok-permissions-in-Some-Added-clause-done c =
    let told : c.reply_in.result ≡ Some LearnReply.Added = search rules in
    let l : IsLearned c.args.policy.now c.args.number c.args.line.now LearnReply.Added = learned c.args.policy.now c.args.number c.args.line.now LearnReply.Added (sym told ∙ c.reply_in.ensures) in
    let with_line : Domain = record l.domain { entries = adding c.args.line.now l.domain.entries } in
    let copied : c.in_ok-line-in-Some-Added.line ≡ c.args.line.now = search rules in
    let placed : c.add_counted.new.policy ≡ with_domain c.args.policy.now c.args.number with_line = search rules in
    l.is ∙ ap (with_reply LearnReply.Added) (sym placed)

pub returns-in_ok-permissions-in-Some-Added-clause-counts : goal.returns-in_ok-permissions-in-Some-Added-clause-counts
returns-in_ok-permissions-in-Some-Added-clause-counts c =
    let told : c.reply_in.result ≡ Some LearnReply.Added = search rules in
    let l : IsLearned c.args.policy.now c.args.number c.args.line.now LearnReply.Added = learned c.args.policy.now c.args.number c.args.line.now LearnReply.Added (sym told ∙ c.reply_in.ensures) in
    let with_line : Domain = record l.domain { entries = adding c.args.line.now l.domain.entries } in
    let copied : c.in_ok-line-in-Some-Added.line ≡ c.args.line.now = search rules in
    let counted : c.in_ok-permissions-in-Some-Added.permissions ≡ count with_line = search rules in
    let placed : c.add_counted.new.policy ≡ with_domain c.args.policy.now c.args.number with_line = search rules in
    counts_after c.args.policy.now c.add_counted.new.policy c.args.number with_line c.in_ok-permissions-in-Some-Added.permissions placed counted

pub returns-in-Some-Quota-clause-done : goal.returns-in-Some-Quota-clause-done
returns-in-Some-Quota-clause-done c =
    let told : c.reply_in.result ≡ Some LearnReply.Quota = search rules in
    let l : IsLearned c.args.policy.now c.args.number c.args.line.now LearnReply.Quota = learned c.args.policy.now c.args.number c.args.line.now LearnReply.Quota (sym told ∙ c.reply_in.ensures) in
    l.is ∙ ap (with_reply LearnReply.Quota) (sym (c.set_quota.ensures.done l.domain l.at))

pub returns-in-Some-Quota-clause-counts : goal.returns-in-Some-Quota-clause-counts
returns-in-Some-Quota-clause-counts c =
    let told : c.reply_in.result ≡ Some LearnReply.Quota = search rules in
    let l : IsLearned c.args.policy.now c.args.number c.args.line.now LearnReply.Quota = learned c.args.policy.now c.args.number c.args.line.now LearnReply.Quota (sym told ∙ c.reply_in.ensures) in
    let closed : Domain = record l.domain { quota_exceeded = true } in
    counts_after c.args.policy.now c.set_quota.new.policy c.args.number closed c.args.permissions (c.set_quota.ensures.done l.domain l.at) (c.requires.counted l.domain l.at ∙ sym (count_flag l.domain))

pub returns-in-Some-There-clause-done : goal.returns-in-Some-There-clause-done
returns-in-Some-There-clause-done c =
    let told : c.reply_in.result ≡ Some LearnReply.There = search rules in
    let l : IsLearned c.args.policy.now c.args.number c.args.line.now LearnReply.There = learned c.args.policy.now c.args.number c.args.line.now LearnReply.There (sym told ∙ c.reply_in.ensures) in
    l.is ∙ ap (with_reply LearnReply.There) (kept_here c.args.policy.now c.args.number l.domain l.at)

pub returns-in-Some-There-clause-counts : goal.returns-in-Some-There-clause-counts
returns-in-Some-There-clause-counts c =
    let told : c.reply_in.result ≡ Some LearnReply.There = search rules in
    let l : IsLearned c.args.policy.now c.args.number c.args.line.now LearnReply.There = learned c.args.policy.now c.args.number c.args.line.now LearnReply.There (sym told ∙ c.reply_in.ensures) in
    counts_kept c.args.policy.now c.args.number l.domain c.args.permissions l.at (c.requires.counted l.domain l.at)

pub returns-in-Some-Mode-clause-done : goal.returns-in-Some-Mode-clause-done
returns-in-Some-Mode-clause-done c =
    let told : c.reply_in.result ≡ Some LearnReply.Mode = search rules in
    let l : IsLearned c.args.policy.now c.args.number c.args.line.now LearnReply.Mode = learned c.args.policy.now c.args.number c.args.line.now LearnReply.Mode (sym told ∙ c.reply_in.ensures) in
    l.is ∙ ap (with_reply LearnReply.Mode) (kept_here c.args.policy.now c.args.number l.domain l.at)

pub returns-in-Some-Mode-clause-counts : goal.returns-in-Some-Mode-clause-counts
returns-in-Some-Mode-clause-counts c =
    let told : c.reply_in.result ≡ Some LearnReply.Mode = search rules in
    let l : IsLearned c.args.policy.now c.args.number c.args.line.now LearnReply.Mode = learned c.args.policy.now c.args.number c.args.line.now LearnReply.Mode (sym told ∙ c.reply_in.ensures) in
    counts_kept c.args.policy.now c.args.number l.domain c.args.permissions l.at (c.requires.counted l.domain l.at)
