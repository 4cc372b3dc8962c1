-- The lines of takes, looks and audit texts: their words are read again.
use Rattle.std.proofs.Common.{◌≡◌, ℕ, ◌+◌, ◌/◌, ◌%◌, ◌==◌, nat_lt, Bool, true, false, ◌&&◌, not, List, [], ◌∷◌, ◌++◌, Option, Some, None, refl, sym, ap, ◌∙◌}
use Rattle.std.specs.Prelude.{codes, decimal}
use Rattle.std.specs.List.{list_all}
use Rattle.tm_word.specs.Prelude.{Text, is_solid, is_word, spell, spelled_word, spelling_of, texts_equal}
use Rattle.tm_rules.specs.Types.{Look, Take}
use Rattle.tm_domain.proofs.NameLaws.{same_texts}
use Rattle.tm_line.proofs.Steps.{both, not_true}
use Rattle.tm_word.proofs.Spelled.{word_again}
use Rattle.tm_line.proofs.WholeLaws.{word_from, spell_solid}
use Rattle.tm_run.specs.RunText.{mode_word, reason_text, move_text, numbers_text, heard_text, verdict_text, own_and_heard_text, look_text, granted_text, domains_text, audit_word, audit_line, take_line}
use Rattle.tm_run.specs.Reading.{take_begun, take_of, look_of, audit_of}
use Rattle.tm_run.specs.Written.{is_plain, is_wide, is_reason, is_move, is_heard, is_look, is_audit}
use Rattle.tm_run.proofs.TextLaws.{one_word, spells_more, Line, last}
use Rattle.tm_run.proofs.FieldLaws.{plain_wide, decimal_is, plain_is, wide_is, mode_is, reason_is, move_is, numbers_are, heard_is, mode_again, reason_again, move_again, numbers_again, heard_again}

-- ---- takes

pub take_words : ℕ → Take → List Text
take_words number t = decimal number ∷ decimal t.pid ∷ decimal t.before ∷ decimal t.after ∷ granted_text t.granted ∷ []

granted_is : (granted : Bool) → is_word (granted_text granted) ≡ true
granted_is true = refl
granted_is false = refl

granted_again : (granted : Bool) → texts_equal (granted_text granted) (codes "granted") ≡ granted
granted_again true = refl
granted_again false = refl

pub take_first : (number : ℕ) (t : Take) → is_wide number ≡ true → is_plain t.pid ≡ true → is_plain t.before ≡ true → is_plain t.after ≡ true → Line (take_line number t) (codes "take" ∷ take_words number t)
unfolding take_words
take_first number t h a b c =
    let pid = one_word (decimal t.pid) (decimal_is t.pid (plain_wide t.pid a)) in
    let before = one_word (decimal t.before) (decimal_is t.before (plain_wide t.before b)) in
    let after = one_word (decimal t.after) (decimal_is t.after (plain_wide t.after c)) in
    let both_first = spells_more (decimal t.pid) (decimal t.before) (decimal t.pid ∷ []) (decimal t.before ∷ []) pid before in
    let domains = spells_more (decimal t.pid ++ 32 ∷ decimal t.before) (decimal t.after) (decimal t.pid ∷ decimal t.before ∷ []) (decimal t.after ∷ []) both_first after in
    let front = spells_more (codes "take") (decimal number) (codes "take" ∷ []) (decimal number ∷ []) (one_word (codes "take") refl) (one_word (decimal number) (decimal_is number h)) in
    let more = spells_more (codes "take " ++ decimal number) (domains_text t) (codes "take" ∷ decimal number ∷ []) (decimal t.pid ∷ decimal t.before ∷ decimal t.after ∷ []) front domains in
    let answer = one_word (granted_text t.granted) (granted_is t.granted) in
    let whole = spells_more (codes "take " ++ decimal number ++ 32 ∷ domains_text t) (granted_text t.granted) (codes "take" ∷ decimal number ∷ decimal t.pid ∷ decimal t.before ∷ decimal t.after ∷ []) (granted_text t.granted ∷ []) more answer in
    last (codes "take " ++ decimal number ++ 32 ∷ domains_text t ++ 32 ∷ granted_text t.granted) (codes "take" ∷ take_words number t) whole

pub take_again : (number : ℕ) (t : Take) → is_plain t.pid ≡ true → is_plain t.before ≡ true → is_plain t.after ≡ true → take_of (codes "take" ∷ take_words number t) ≡ Some (take_begun t.pid t.before t.after t.granted)
unfolding take_words take_of
take_again number t a b c = rw (plain_is t.pid a, plain_is t.before b, plain_is t.after c, granted_again t.granted) refl

-- ---- looks

unfoldable pub look_words : Look → List Text
look_words look = decimal look.version ∷ mode_word look.mode ∷ reason_text look.reason ∷ move_text look.step ∷ numbers_text look.own ∷ heard_text look.heard ∷ []

-- what a look that can be written has
pub record LookParts (look : Look) : Type 0 where
  pub version : is_wide look.version ≡ true
  pub reason : is_reason look.reason ≡ true
  pub move : is_move look.step ≡ true
  pub own : list_all is_wide look.own ≡ true
  pub heard : is_heard look.heard ≡ true

pub look_parts : (look : Look) → is_look look ≡ true → LookParts look
look_parts look h =
    let a = both (is_wide look.version && is_reason look.reason && is_move look.step && list_all is_wide look.own) (is_heard look.heard) h in
    let b = both (is_wide look.version && is_reason look.reason && is_move look.step) (list_all is_wide look.own) a.0 in
    let c = both (is_wide look.version && is_reason look.reason) (is_move look.step) b.0 in
    let d = both (is_wide look.version) (is_reason look.reason) c.0 in
    record { version = d.0; reason = d.1; move = c.1; own = b.1; heard = a.1 }

pub look_line : (look : Look) → is_look look ≡ true → Line (look_text look) (codes "look" ∷ look_words look)
unfolding look_words
look_line look h =
    let p = look_parts look h in
    let mode = one_word (mode_word look.mode) (mode_is look.mode) in
    let reason = one_word (reason_text look.reason) (reason_is look.reason p.reason) in
    let move = one_word (move_text look.step) (move_is look.step p.move) in
    let own = one_word (numbers_text look.own) (numbers_are look.own p.own) in
    let heard = one_word (heard_text look.heard) (heard_is look.heard p.heard) in
    let case = spells_more (mode_word look.mode) (reason_text look.reason) (mode_word look.mode ∷ []) (reason_text look.reason ∷ []) mode reason in
    let verdict = spells_more (mode_word look.mode ++ 32 ∷ reason_text look.reason) (move_text look.step) (mode_word look.mode ∷ reason_text look.reason ∷ []) (move_text look.step ∷ []) case move in
    let made = spells_more (numbers_text look.own) (heard_text look.heard) (numbers_text look.own ∷ []) (heard_text look.heard ∷ []) own heard in
    let front = spells_more (codes "look") (decimal look.version) (codes "look" ∷ []) (decimal look.version ∷ []) (one_word (codes "look") refl) (one_word (decimal look.version) (decimal_is look.version p.version)) in
    let most = spells_more (codes "look " ++ decimal look.version) (verdict_text look) (codes "look" ∷ decimal look.version ∷ []) (mode_word look.mode ∷ reason_text look.reason ∷ move_text look.step ∷ []) front verdict in
    let whole = spells_more (codes "look " ++ decimal look.version ++ 32 ∷ verdict_text look) (own_and_heard_text look) (codes "look" ∷ decimal look.version ∷ mode_word look.mode ∷ reason_text look.reason ∷ move_text look.step ∷ []) (numbers_text look.own ∷ heard_text look.heard ∷ []) most made in
    last (codes "look " ++ decimal look.version ++ 32 ∷ verdict_text look ++ 32 ∷ own_and_heard_text look) (codes "look" ∷ look_words look) whole

pub look_again : (look : Look) → is_look look ≡ true → look_of (codes "look" ∷ look_words look) ≡ Some look
unfolding look_words look_of
look_again look h =
    let p = look_parts look h in
    rw (wide_is look.version p.version, mode_again look.mode, reason_again look.reason p.reason, move_again look.step p.move, numbers_again look.own p.own, heard_again look.heard p.heard) refl

-- ---- audit texts

spelled_first : (byte : ℕ) (a b : Bool) → (byte == 92) ≡ a → (nat_lt 32 byte && nat_lt byte 127) ≡ b → (text : Text) → is_solid (spelling_of byte ++ text) ≡ true → is_word (spelling_of byte ++ text) ≡ true
spelled_first byte true b e f text = rw e (word_from 92 (92 ∷ text))
spelled_first byte false true e f text = rw (e, f) (word_from byte text)
spelled_first byte false false e f text = rw (e, f) (word_from 92 ((48 + byte / 64) ∷ (48 + byte / 8 % 8) ∷ (48 + byte % 8) ∷ text))

-- the words after `audit`
pub record AuditLine (audit : Option Text) : Type 0 where
  pub words : List Text
  pub line : Line (audit_line audit) (codes "audit" ∷ words)
  pub reads : audit_of (codes "audit" ∷ words) ≡ audit

one_audit : (audit : Option Text) → is_word (audit_word audit) ≡ true → Line (audit_line audit) (codes "audit" ∷ audit_word audit ∷ [])
one_audit audit h =
    let whole = spells_more (codes "audit") (audit_word audit) (codes "audit" ∷ []) (audit_word audit ∷ []) (one_word (codes "audit") refl) (one_word (audit_word audit) h) in
    last (codes "audit " ++ audit_word audit) (codes "audit" ∷ audit_word audit ∷ []) whole

some_text : (x y : Text) → Some x ≡ Some y → x ≡ y
some_text x y e = cc

text_by : (text : Text) (t s : Bool) → texts_equal (spell text) (codes "-") ≡ t → texts_equal (spell text) [] ≡ s → texts_equal text (codes "-") ≡ false → texts_equal text [] ≡ false → list_all (λ byte. nat_lt byte 256) text ≡ true → audit_of (codes "audit" ∷ spell text ∷ []) ≡ Some text
unfolding audit_of
text_by text true s e f other filled bytes =
    let dash : spell text ≡ spell (codes "-") = same_texts (spell text) (codes "-") e in
    let same : text ≡ codes "-" = some_text text (codes "-") (sym (word_again text bytes) ∙ ap spelled_word dash ∙ word_again (codes "-") refl) in
    let yes : texts_equal text (codes "-") ≡ true = rw same refl in
    absurd (let wrong : true ≡ false = sym yes ∙ other in cc)
text_by text false true e f other filled bytes =
    let nothing : spell text ≡ spell [] = same_texts (spell text) [] f in
    let same : text ≡ [] = some_text text [] (sym (word_again text bytes) ∙ ap spelled_word nothing ∙ word_again [] refl) in
    let yes : texts_equal text [] ≡ true = rw same refl in
    absurd (let wrong : true ≡ false = sym yes ∙ filled in cc)
text_by text false false e f other filled bytes = rw (e, f) (word_again text bytes)

pub audit_again : (audit : Option Text) → is_audit audit ≡ true → AuditLine audit
unfolding audit_of
audit_again None h = record { words = codes "-" ∷ []; line = one_audit None refl; reads = refl }
audit_again (Some []) h = absurd cc
audit_again (Some (b ∷ text)) h =
    let s = both (list_all (λ byte. nat_lt byte 256) (b ∷ text) && not (texts_equal (b ∷ text) (codes "-"))) (not (texts_equal (b ∷ text) [])) h in
    let t = both (list_all (λ byte. nat_lt byte 256) (b ∷ text)) (not (texts_equal (b ∷ text) (codes "-"))) s.0 in
    let word : is_word (spell (b ∷ text)) ≡ true = spelled_first b _ _ refl refl (spell text) (spell_solid (b ∷ text) t.0) in
    record {
      words = spell (b ∷ text) ∷ [];
      line = one_audit (Some (b ∷ text)) word;
      reads = text_by (b ∷ text) _ _ refl refl (not_true (texts_equal (b ∷ text) (codes "-")) t.1) refl t.0;
    }
