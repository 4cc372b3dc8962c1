use Rattle.std.proofs.Common.{◌≡◌, ℕ, get_or, map, slice_set, ap, ◌∙◌, rules}
use Rattle.tm_index.specs.declared.index.DomainIndex.{DomainIndex}
use Rattle.tm_index.specs.Listing.{Listed, noting}
use Rattle.tm_index.specs.Index.{Told, told, domain_listed}
use Rattle.tm_index.proofs.TellingLaws.{seen_back, told_equal}
use Rattle.tm_index.proofs.changes.take_last_in.Goals as goal

abbrev pair : Listed → ℕ → Listed × ℕ
pair a n = (a, n)

pair_by : {a b : Listed} {m n : ℕ} → a ≡ b → m ≡ n → pair a m ≡ pair b n
pair_by e h = λ i. (e i, h i)

pub returns : goal.returns
returns c before place h =
    let x : DomainIndex = c.index_mut.result.now in
    let y : DomainIndex = record { own = c.take_last.new.self; permissions = c.index_mut.result.now.permissions } in
    let made : c.from_vec.result ≡ slice_set c.args.index.now.domains c.args.number y = search rules in
    let at : x ≡ get_or c.args.index.now.domains c.args.number x = search rules in
    told_equal (told (record { domains = c.from_vec.result; groups = c.args.index.now.groups; live = c.args.index.now.live })) before
    (ap (map domain_listed) made
    ∙ seen_back domain_listed (λ (d : Listed × ℕ). (noting c.args.label.now place d.0, d.1)) c.args.index.now.domains before.domains c.args.number x y c.requires at (ap (λ (t : Told). t.domains) h)
    (λ b e. pair_by (c.take_last.ensures b.0 place (ap (λ (d : Listed × ℕ). d.0) e)) (ap (λ (d : Listed × ℕ). d.1) e)))
    (ap (λ (t : Told). t.groups) h) (ap (λ (t : Told). t.live) h)
