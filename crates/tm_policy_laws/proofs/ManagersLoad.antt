-- The printed managers are made again.
use Rattle.std.proofs.Common.{◌≡◌, Bool, true, false, List, [], ◌++◌, refl, sym, ap, subst, ◌∙◌}
use Rattle.std.specs.List.{AllByRecursion, IsDistinct, flat_map}
use Rattle.tm_word.specs.Prelude.{Text, texts_equal}
use Rattle.tm_rules.specs.Types.{FileKind, ManagerRule, Policy, PolicyLine}
use Rattle.tm_rules.specs.Prelude.{Cursor, apply_read, joining}
use Rattle.tm_rules.specs.Edit.{manager_line as line_done}
use Rattle.tm_text.specs.DomainText.{flag_line}
use Rattle.tm_text.specs.ManagerText.{manager_line, manager_text}
use Rattle.tm_policy_line.specs.Printing.{non_root_words, manager_words}
use Rattle.tm_policy_line.specs.Written.{is_manager_text}
use Rattle.tm_policy_line.proofs.ManagerAgain.{non_root_again, manager_again, manager_are}
use Rattle.tm_policy_laws.proofs.ListLaws.{joined_after}
use Rattle.tm_policy_laws.proofs.NamespaceLaws.{even_texts}
use Rattle.tm_policy_laws.proofs.Folding.{Loads, loads_none, loads_both, loads_all, loads_line}

-- the policy with these managers
abbrev pub with_managers : Policy → Bool → List Text → Policy
with_managers base by_non_root managers = record base { by_non_root = by_non_root; managers = managers }

module _ (base : Policy) (c : Cursor) where
  non_root_loads : (flag : Bool) → Loads FileKind.Manager (flag_line non_root_words flag) (with_managers base false []) c (with_managers base flag []) c
  unfolding apply_read line_done
  non_root_loads true = loads_line non_root_words (PolicyLine.Manager false ManagerRule.ByNonRoot) refl (non_root_again false) refl
  non_root_loads false = loads_none

  name_loads : (flag : Bool) (name : Text) (managers : List Text) → is_manager_text name ≡ true
      → Loads FileKind.Manager (manager_line name) (with_managers base flag managers) c (with_managers base flag (joining texts_equal name managers)) c
  unfolding apply_read line_done
  name_loads flag name managers right =
      loads_line (manager_words name) (PolicyLine.Manager false (ManagerRule.Name name)) (manager_are name right) (manager_again false name right) refl

  names_load
      : (flag : Bool) (managers : List Text) → AllByRecursion (λ (name : Text). is_manager_text name ≡ true) managers → IsDistinct texts_equal managers
      → Loads FileKind.Manager (flat_map manager_line managers) (with_managers base flag []) c (with_managers base flag managers) c
  names_load flag managers right once =
      subst
      (λ (all : List Text). Loads FileKind.Manager (flat_map manager_line managers) (with_managers base flag []) c (with_managers base flag all) c)
      (joined_after texts_equal [] managers even_texts once)
      (loads_all (λ (name : Text). is_manager_text name ≡ true) manager_line (λ all. with_managers base flag all) c (λ all name. joining texts_equal name all) (λ name all h. name_loads flag name all h) managers [] right)

  pub managers_load
      : (p : Policy) → base.by_non_root ≡ false → base.managers ≡ [] → AllByRecursion (λ (name : Text). is_manager_text name ≡ true) p.managers → IsDistinct texts_equal p.managers
      → Loads FileKind.Manager (manager_text p) base c (with_managers base p.by_non_root p.managers) c
  unfolding manager_text
  managers_load p no_root none right once =
      let bare : with_managers base false [] ≡ base = ap (λ (b : Bool). with_managers base b []) (sym no_root) ∙ ap (λ (all : List Text). with_managers base base.by_non_root all) (sym none) in
      subst
      (λ (start : Policy). Loads FileKind.Manager (flag_line non_root_words p.by_non_root ++ flat_map manager_line p.managers) start c (with_managers base p.by_non_root p.managers) c)
      bare
      (loads_both (non_root_loads p.by_non_root) (names_load p.by_non_root p.managers right once))
