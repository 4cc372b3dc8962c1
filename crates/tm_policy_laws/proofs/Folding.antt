-- A text of lines is loaded line by line.
use Rattle.std.proofs.Common.{◌≡◌, ℕ, suc, ◌==◌, true, List, [], ◌∷◌, ◌++◌, Ok, refl, sym, ap, ◌∙◌, append_assoc}
use Rattle.std.specs.Prelude.{None}
use Rattle.std.specs.List.{AllByRecursion, list_all, flat_map, fold}
use Rattle.std.proofs.lemmas.List.{append-nil}
use Rattle.std.proofs.lemmas.List.Splits.{slice_split-cons_yes}
use Rattle.tm_word.specs.Prelude.{Text, is_word, joined, lines_of, words_of}
use Rattle.tm_rules.specs.Types.{FileKind, Policy, PolicyLine}
use Rattle.tm_rules.specs.Prelude.{Cursor, apply_line, apply_parsed, apply_read, edited, load_file, load_lines}
use Rattle.tm_line.proofs.Steps.{both}
use Rattle.tm_line.proofs.JoinLaws.{joined_is}
use Rattle.tm_line.proofs.LineLaws.{line_first}
use Rattle.tm_policy_line.specs.Reading.{read_words, read_line}
use Rattle.tm_policy_line.specs.Printing.{printed_line}
use Rattle.tm_policy_line.proofs.TextLines.{joined_line, named_joined}
use Rattle.tm_grammar.specs.Tomoyo.{tomoyo_grammar}

-- whatever stands after it, the text leads from a policy and a cursor to others, each of its lines
-- done
pub record Loads (file : FileKind) (text : Text) (p : Policy) (c : Cursor) (q : Policy) (d : Cursor) : Type 0 where
  pub leads : (rest : Text) (n : ℕ) → (m : ℕ) × (load_lines tomoyo_grammar file n (lines_of (text ++ rest)) p c ≡ load_lines tomoyo_grammar file m (lines_of rest) q d)

-- a line that is done
done_by : (file : FileKind) (line : Text) (l : PolicyLine) (p : Policy) (c : Cursor) (q : Policy) (d : Cursor) → read_line file line ≡ Ok l → apply_read p c l ≡ edited q d
    → apply_line tomoyo_grammar p file c line ≡ edited q d
unfolding apply_line
done_by file line l p c q d read is = ap (apply_parsed p c) read ∙ is

first_done
    : (file : FileKind) (n : ℕ) (line : Text) (lines : List Text) (p : Policy) (c : Cursor) (q : Policy) (d : Cursor) → apply_line tomoyo_grammar p file c line ≡ edited q d
    → load_lines tomoyo_grammar file n (line ∷ lines) p c ≡ load_lines tomoyo_grammar file (suc n) lines q d
unfolding load_lines
first_done file n line lines p c q d e = rw e refl

-- a printed line comes first
printed_first : (ws : List Text) (rest : Text) → list_all is_word ws ≡ true → lines_of (printed_line ws ++ rest) ≡ joined ws ∷ lines_of rest
printed_first [] rest are = slice_split-cons_yes (λ b. b == 10) 10 rest refl
printed_first (w ∷ ws) rest are =
    let t = both (is_word w) (list_all is_word ws) are in
    ap (λ (text : Text). lines_of (text ++ rest)) (sym (named_joined w ws)) ∙ line_first w ws rest t.0 t.1 ∙ ap (λ (line : Text). line ∷ lines_of rest) (sym (joined_is w ws))

-- no text
pub loads_none : {file : FileKind} {p : Policy} {c : Cursor} → Loads file [] p c p c
loads_none = record { leads = λ rest n. (n, refl) }

-- one text after another
pub loads_both
    : {file : FileKind} {x y : Text} {p : Policy} {c : Cursor} {q : Policy} {d : Cursor} {r : Policy} {e : Cursor} → Loads file x p c q d → Loads file y q d r e → Loads file (x ++ y) p c r e
loads_both {file} {x} {y} {p} {c} h k =
    record {
      leads = λ rest n.
          let a = h.leads (y ++ rest) n in
          let b = k.leads rest a.0 in
          (b.0, ap (λ (t : Text). load_lines tomoyo_grammar file n (lines_of t) p c) (append_assoc x y rest) ∙ a.1 ∙ b.1);
    }

-- each text of a list
pub loads_all
    : {file : FileKind} {A S : Type 0} (P : A → Type 0) (text : A → Text) (at : S → Policy) (c : Cursor) (step : S → A → S)
    → ((x : A) (s : S) → P x → Loads file (text x) (at s) c (at (step s x)) c)
    → (xs : List A) (s : S) → AllByRecursion P xs → Loads file (flat_map text xs) (at s) c (at (fold step s xs)) c
loads_all P text at c step one [] s h = loads_none
loads_all P text at c step one (x ∷ xs) s h = loads_both (one x s h.0) (loads_all P text at c step one xs (step s x) h.1)

-- a line of words
pub loads_line
    : {file : FileKind} {p : Policy} {c : Cursor} {q : Policy} {d : Cursor} (ws : List Text) (l : PolicyLine)
    → list_all is_word ws ≡ true → read_words file ws ≡ Ok l → apply_read p c l ≡ edited q d → Loads file (printed_line ws) p c q d
loads_line {file} {p} {c} {q} {d} ws l are read is =
    record {
      leads = λ rest n. (
        suc n,
        ap (λ (lines : List Text). load_lines tomoyo_grammar file n lines p c) (printed_first ws rest are)
            ∙ first_done file n (joined ws) (lines_of rest) p c q d (done_by file (joined ws) l p c q d (joined_line file ws are ∙ read) is),
      );
    }

-- an empty line
pub loads_empty : {file : FileKind} {p : Policy} {c : Cursor} → Loads file (10 ∷ []) p c p c
unfolding read_words apply_read
loads_empty = loads_line [] PolicyLine.Nothing refl refl refl

-- a whole file
pub loads_file : (file : FileKind) (text : Text) (p q : Policy) (d : Cursor) → Loads file text p None q d → load_file tomoyo_grammar file text p ≡ Ok q
unfolding load_lines apply_read read_line read_words words_of
loads_file file text p q d h =
    let a = h.leads [] 1 in
    ap (λ (t : Text). load_lines tomoyo_grammar file 1 (lines_of t) p None) (sym (append-nil text))
    ∙ a.1
    ∙ first_done file a.0 [] [] q d q d (done_by file [] PolicyLine.Nothing q d q d refl refl)
