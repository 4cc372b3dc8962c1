-- Where an execute leads is told by the name and the preference of the found entry alone, and a
-- learned line leads where no line does.
use Rattle.std.proofs.Common.{◌≡◌, ℕ, List, [], refl, sym, ap, ◌∙◌, inl, inr, ◌⊎◌}
use Rattle.std.specs.Prelude.{Option, Some, None, option_map}
use Rattle.tm_word.specs.Prelude.{Text, spell}
use Rattle.tm_word.proofs.Literals.{literal-spelled}
use Rattle.tm_rules.specs.Prelude.{Decision, DomainName, Granting, aggregated, candidate, control_kind, decision, learned_line, path_of, target_name, written_name}
use Rattle.tm_rules.specs.Types.{Args, Entry, EntryPlace, NamePlace, Namespace, Profile, Request}
use Rattle.tm_legal.specs.Prelude.{Execute, FoundLine, IsLearnedLine, execute_line, line_found}
use Rattle.tm_rerun_laws.proofs.FirstLater.{grown}

-- the name that an execute leads to, by what was found for it
abbrev pub way_of : Namespace → DomainName → Option Granting → Request → Option DomainName
way_of ns name found request = target_name name (candidate ns found request) (decision ns name found request)

-- ACL groups and profiles lead nowhere
pub way-later : (ns : Namespace) (acl : List (ℕ × List Entry)) (profiles : List (ℕ × Profile)) (name : DomainName) (found : Option Granting) (request : Request) → way_of (grown ns acl profiles) name found request ≡ way_of ns name found request
unfolding decision candidate control_kind written_name aggregated
way-later ns acl profiles name None request = refl
way-later ns acl profiles name (Some g) request = refl

-- an entry with these arguments, found by this name
abbrev as_found : Args → NamePlace → Granting
as_found args name = record { place = EntryPlace.Own 0; entry = record { args = args; perms = record { bits = 0 }; cond = record { clauses = []; grant_log = None } }; name = name }

way-found : (ns : Namespace) (name : DomainName) (g : Granting) (request : Request) → way_of ns name (Some g) request ≡ way_of ns name (Some (as_found g.entry.args g.name)) request
unfolding decision candidate written_name
way-found ns name g request = refl

same-line : (ns : Namespace) (name : DomainName) (g h : Granting) (request : Request) → line_found g ≡ line_found h → way_of ns name (Some g) request ≡ way_of ns name (Some h) request
same-line ns name g h request e =
    way-found ns name g request ∙ ap (λ (l : FoundLine). way_of ns name (Some (as_found l.args l.name)) request) e ∙ sym (way-found ns name h request)

learned-found : (ns : Namespace) (name : DomainName) (x : Execute) (place : NamePlace) (request : Request) → x.name ≡ aggregated ns (path_of request) → way_of ns name (Some (as_found (execute_line x).args place)) request ≡ way_of ns name None request
unfolding decision candidate written_name learned_line
learned-found ns name x place request e =
    ap (λ (text : Text). target_name name text (Decision.By_control (control_kind ns name text))) (literal-spelled x.name ∙ ap spell e)

learned-way : (ns : Namespace) (name : DomainName) (x : Execute) (h : Granting) (request : Request) → x.name ≡ aggregated ns (path_of request) → h.entry.args ≡ (execute_line x).args → way_of ns name (Some h) request ≡ way_of ns name None request
learned-way ns name x h request e args =
    way-found ns name h request ∙ ap (λ (a : Args). way_of ns name (Some (as_found a h.name)) request) args ∙ learned-found ns name x h.name request e

-- the found line is the same, or none and then the learned one
abbrev pub SameFound : Execute → Option FoundLine → Option FoundLine → Type 0
SameFound x before after = (after ≡ before) ⊎ ((before ≡ None) × ((found : FoundLine) × (after ≡ Some found) × IsLearnedLine x found))

-- it leads to the same name
pub same-way : (ns : Namespace) (name : DomainName) (x : Execute) (f h : Option Granting) (request : Request) → x.name ≡ aggregated ns (path_of request) → SameFound x (option_map line_found f) (option_map line_found h) → way_of ns name h request ≡ way_of ns name f request
same-way ns name x None None request e same = refl
same-way ns name x None (Some h) request e (inl same) = absurd cc
same-way ns name x None (Some h) request e (inr (none, (found, is, learned))) =
    let line : line_found h ≡ found = cc in
    learned-way ns name x h request e (ap (λ (l : FoundLine). l.args) line ∙ learned.args)
same-way ns name x (Some f) None request e (inl same) = absurd cc
same-way ns name x (Some f) None request e (inr (none, learned)) = absurd cc
same-way ns name x (Some f) (Some h) request e (inl same) = same-line ns name h f request (let line : line_found h ≡ line_found f = cc in line)
same-way ns name x (Some f) (Some h) request e (inr (none, learned)) = absurd cc
