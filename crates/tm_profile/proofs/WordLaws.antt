-- The words of each printed line are read again.
use Rattle.std.proofs.Common.{◌≡◌, ℕ, ◌+◌, ◌≤◌, ◌<◌, ◌^◌, ◌==◌, Bool, true, false, not, List, [], ◌∷◌, ◌++◌, length, take, drop, Some, None, Result, Ok, refl, sym, ap, ◌∙◌, arith, rules, eq-eqb, true≢false}
use Rattle.std.specs.Prelude.{codes}
use Rattle.std.specs.List.{list_all}
use Rattle.std.specs.Char.{digit_value}
use Rattle.std.specs.Str.Parse.{AllDigits}
use Rattle.std.specs.Fmt.{decimal}
use Rattle.std.proofs.lemmas.Fmt.{decimal_is_IsNumeral}
use Rattle.std.proofs.lemmas.Str.Parse.{digit_from_value}
use Rattle.std.proofs.lemmas.Bool.{ne_eqb}
use Rattle.std.proofs.lemmas.Bool.Decides.{nat_tests}
use Rattle.std.proofs.lemmas.List.{take_at}
use Rattle.std.proofs.lemmas.List.Folds.{list_all-append}
use Rattle.std.proofs.Math.Seq.{drop-append-add}
use Rattle.tm_word.specs.Prelude.{Text, after, is_separator, is_solid, is_word, ◌>>=◌}
use Rattle.tm_number.specs.Numbers.{plain_of}
use Rattle.tm_number.proofs.NumberLaws.{plain_again}
use Rattle.tm_line.proofs.Free.{Free, free_digits, place_at}
use Rattle.tm_rules.specs.Types.{Config, Function, LineKind, Mode, ProfileEffect, Setting, SlotName}
use Rattle.tm_line.specs.Lines.{or_kind, is_last}
use Rattle.tm_profile.specs.declared.reading.Limits.{Limits}
use Rattle.tm_profile.specs.Slots.{function_text, slot_text, mode_word}
use Rattle.tm_profile.specs.Reading.{comment_of, key_of, unseen, seen_after, closed, setting_after, unlimited, limit_of, limits_with, limits_after, slot_of, numbered, numbered_by, effect_by, effect_at}
use Rattle.tm_profile.specs.Printing.{headed, grant_text, reject_text, setting_words, audit_text, learning_text, limit_words}
use Rattle.tm_profile.proofs.EffectLaws.{setting_of}

-- Decimals

digit_inner : (c : ℕ) → digit_value c < 10 → is_separator c ≡ false
digit_inner c h = let r = digit_from_value c h in search (rules, nat_tests)

digits_proper : (ds : Text) → AllDigits 10 ds → is_solid ds ≡ true
digits_proper [] h = refl
digits_proper (d ∷ ds) h = rw (digit_inner d h.0) (digits_proper ds h.1)

small : (n : ℕ) → n < 2 ^ 32 → n < 2 ^ 64
small n h = omega (arith, h)

decimal_proper : (n : ℕ) → n < 2 ^ 32 → is_solid (decimal n) ≡ true
decimal_proper n h = digits_proper (decimal n) (decimal_is_IsNumeral n (small n h)).0.1

decimal_long : (n : ℕ) → n < 2 ^ 32 → 0 < length (decimal n)
decimal_long n h = (decimal_is_IsNumeral n (small n h)).0.0

decimal_free : (c n : ℕ) → 10 ≤ digit_value c → n < 2 ^ 32 → Free c (decimal n)
decimal_free c n h k = free_digits c 10 (decimal n) h (decimal_is_IsNumeral n (small n k)).0.1

-- The head of a line

not_first : (c d : ℕ) → (d == c) ≡ false → (c == d) ≡ false
not_first c d h = ne_eqb c d (λ e. true≢false (sym (eq-eqb d c (sym e)) ∙ h))

no_version : (ds rest : Text) → 0 < length ds → Free 80 ds → after (codes "PROFILE_VERSION=") (ds ++ rest) ≡ None
no_version [] rest h k = absurd (omega (arith, h))
no_version (d ∷ ds) rest h k = rw (not_first 80 d k.0) refl

pub headed_is : (n : ℕ) (word : Text) (ws : List Text) → n < 256 → effect_at (headed n word ∷ ws) ≡ numbered n word ws
unfolding effect_at
headed_is n word ws h =
    let ds = decimal n in
    let less : n < 2 ^ 32 = omega (arith, h) in
    let front : take (length ds) (ds ++ 45 ∷ word) ≡ ds = take_at ds (45 ∷ word) (length ds) refl in
    let back : drop (length ds + 1) (ds ++ 45 ∷ word) ≡ word = drop-append-add ds (45 ∷ word) 1 in
    ap (λ o. effect_by o (ds ++ 45 ∷ word) ws) (no_version ds (45 ∷ word) (decimal_long n less) (decimal_free 80 n (omega arith) less))
    ∙ ap (λ o. numbered_by o (ds ++ 45 ∷ word) ws) (place_at 45 ds word refl (decimal_free 45 n (omega arith) less))
    ∙ ap (λ (t : Text). or_kind LineKind.Profile (plain_of 256 t) >>= λ k. numbered k (drop (length ds + 1) (ds ++ 45 ∷ word)) ws) front
    ∙ ap (λ (t : Text). or_kind LineKind.Profile (plain_of 256 ds) >>= λ k. numbered k t ws) back
    ∙ ap (λ o. or_kind LineKind.Profile o >>= λ k. numbered k word ws) (plain_again 256 n h (small n less))

joined_proper : (x y : Text) → is_solid x ≡ true → is_solid y ≡ true → is_solid (x ++ y) ≡ true
joined_proper x y h k = list_all-append (λ b. not (is_separator b)) x y ∙ rw h k

longer : (x y : Text) → 0 < length x → not (length (x ++ y) == 0) ≡ true
longer [] y h = absurd (omega (arith, h))
longer (b ∷ x) y h = let no : (length (b ∷ (x ++ y)) == 0) ≡ false = ne_eqb _ _ (λ e. absurd (omega (arith, e))) in rw no refl

word_of_two : (x y : Text) → 0 < length x → is_solid x ≡ true → is_solid y ≡ true → is_word (x ++ y) ≡ true
word_of_two x y h k l = rw (longer x y h) (joined_proper x y k l)

pub headed_word : (n : ℕ) (word : Text) → n < 256 → is_solid word ≡ true → is_word (headed n word) ≡ true
headed_word n word h k =
    let less : n < 2 ^ 32 = omega (arith, h) in
    let tail : is_solid (45 ∷ word) ≡ true = k in
    word_of_two (decimal n) (45 ∷ word) (decimal_long n less) (decimal_proper n less) tail

pub audit_word : (n : ℕ) → n < 2 ^ 32 → is_word (audit_text n) ≡ true
unfolding audit_text
audit_word n h = word_of_two (codes "max_audit_log=") (decimal n) (omega arith) refl (decimal_proper n h)

pub learning_word : (n : ℕ) → n < 2 ^ 32 → is_word (learning_text n) ≡ true
unfolding learning_text
learning_word n h = word_of_two (codes "max_learning_entry=") (decimal n) (omega arith) refl (decimal_proper n h)

-- Each line

pub version_again : effect_at (codes "PROFILE_VERSION=20150505" ∷ []) ≡ Ok ProfileEffect.Version
unfolding effect_at
version_again = refl

pub comment_again : (n : ℕ) (w : Text) (ws : List Text) → n < 256 → effect_at (headed n (codes "COMMENT=" ++ w) ∷ ws) ≡ Ok (ProfileEffect.Comment n (comment_of w ws))
unfolding numbered
comment_again n w ws h = headed_is n (codes "COMMENT=" ++ w) ws h

limit_digits : (ds : Text) (last : Bool) → 0 < length ds → limit_of ds last ≡ or_kind LineKind.Profile (plain_of (2 ^ 32) ds)
limit_digits [] last h = absurd (omega (arith, h))
limit_digits (d ∷ ds) last h = refl

limit_again : (n : ℕ) (last : Bool) → n < 2 ^ 32 → limit_of (decimal n) last ≡ Ok n
limit_again n last h = limit_digits (decimal n) last (decimal_long n h) ∙ ap (or_kind LineKind.Profile) (plain_again (2 ^ 32) n h (small n h))

audit_again : (n : ℕ) → n < 2 ^ 32 → limits_with unlimited (audit_text n) false ≡ Ok (record { audit = Some n; learning = None })
unfolding limits_with audit_text
audit_again n h = ap (λ (r : Result ℕ LineKind). r >>= λ k. Ok (record unlimited { audit = Some k })) (limit_again n false h)

learning_again : (a n : ℕ) → n < 2 ^ 32 → limits_with (record { audit = Some a; learning = None }) (learning_text n) false ≡ Ok (record { audit = Some a; learning = Some n })
unfolding limits_with learning_text
learning_again a n h = ap (λ (r : Result ℕ LineKind). r >>= λ k. Ok (limits a k)) (limit_again n false h)
  where
    limits : ℕ → ℕ → Limits
    limits a k = record { audit = Some a; learning = Some k }

audit_first : (seen : Limits) (n : ℕ) (ws : List Text) → limits_after seen (audit_text n ∷ ws) ≡ (limits_with seen (audit_text n) (is_last ws) >>= λ more. limits_after more ws)
unfolding limits_after audit_text
audit_first seen n ws = refl

learning_first : (seen : Limits) (n : ℕ) (ws : List Text) → limits_after seen (learning_text n ∷ ws) ≡ (limits_with seen (learning_text n) (is_last ws) >>= λ more. limits_after more ws)
unfolding limits_after learning_text
learning_first seen n ws = refl

limits_again : (a l : ℕ) → a < 2 ^ 32 → l < 2 ^ 32 → limits_after unlimited (limit_words a l) ≡ Ok (record { audit = Some a; learning = Some l })
unfolding limits_after
limits_again a l h k =
    audit_first unlimited a (learning_text l ∷ codes "}" ∷ [])
    ∙ ap (λ (r : Result Limits LineKind). r >>= λ more. limits_after more (learning_text l ∷ codes "}" ∷ [])) (audit_again a h)
    ∙ learning_first (record { audit = Some a; learning = None }) l (codes "}" ∷ [])
    ∙ ap (λ (r : Result Limits LineKind). r >>= λ more. limits_after more (codes "}" ∷ [])) (learning_again a l k)

pub preference_again : (n a l : ℕ) → n < 256 → a < 2 ^ 32 → l < 2 ^ 32 → effect_at (headed n (codes "PREFERENCE={") ∷ limit_words a l) ≡ Ok (ProfileEffect.Preference n (Some a) (Some l))
unfolding numbered
preference_again n a l h i k =
    headed_is n (codes "PREFERENCE={") (limit_words a l) h
    ∙ ap (λ (r : Result Limits LineKind). r >>= λ limits. Ok (ProfileEffect.Preference n limits.audit limits.learning)) (limits_again a l i k)

setting_made : (mode : Mode) (grant reject : Bool) → setting_after unseen (mode_word mode ∷ grant_text grant ∷ reject_text reject ∷ codes "}" ∷ []) ≡ Ok (record { mode = mode; grant = Some grant; reject = Some reject })
unfolding setting_after seen_after key_of closed
setting_made Mode.Disabled true true = refl
setting_made Mode.Disabled true false = refl
setting_made Mode.Disabled false true = refl
setting_made Mode.Disabled false false = refl
setting_made Mode.Learning true true = refl
setting_made Mode.Learning true false = refl
setting_made Mode.Learning false true = refl
setting_made Mode.Learning false false = refl
setting_made Mode.Permissive true true = refl
setting_made Mode.Permissive true false = refl
setting_made Mode.Permissive false true = refl
setting_made Mode.Permissive false false = refl
setting_made Mode.Enforcing true true = refl
setting_made Mode.Enforcing true false = refl
setting_made Mode.Enforcing false true = refl
setting_made Mode.Enforcing false false = refl

pub setting_again : (c : Config) → setting_after unseen (setting_words c) ≡ Ok (setting_of c)
setting_again c = setting_made c.mode c.logs.grant c.logs.reject

pub setting_proper : (c : Config) → list_all is_word (setting_words c) ≡ true
setting_proper c = rw (mode_is c.mode, grant_word c.logs.grant, reject_word c.logs.reject) refl
  where
    mode_is : (m : Mode) → is_word (mode_word m) ≡ true
    mode_is Mode.Disabled = refl
    mode_is Mode.Learning = refl
    mode_is Mode.Permissive = refl
    mode_is Mode.Enforcing = refl

    grant_word : (b : Bool) → is_word (grant_text b) ≡ true
    grant_word true = refl
    grant_word false = refl

    reject_word : (b : Bool) → is_word (reject_text b) ≡ true
    reject_word true = refl
    reject_word false = refl

pub config_again : (n : ℕ) (c : Config) → n < 256 → effect_at (headed n (codes "CONFIG" ++ codes "={") ∷ setting_words c) ≡ Ok (ProfileEffect.Config n (setting_of c))
unfolding numbered
config_again n c h =
    headed_is n (codes "CONFIG" ++ codes "={") (setting_words c) h ∙ ap (λ (r : Result Setting LineKind). r >>= λ setting. Ok (ProfileEffect.Config n setting)) (setting_again c)

-- the word of a slot that gets a setting
slot_head : (n : ℕ) (s : SlotName) (ws : List Text) → numbered n (slot_text s ++ codes "={") ws ≡ (setting_after unseen ws >>= λ setting. Ok (ProfileEffect.Slot n s (Some setting)))
unfolding numbered slot_of slot_text function_text
slot_head n SlotName.File ws = refl
slot_head n SlotName.Network ws = refl
slot_head n SlotName.Misc ws = refl
slot_head n (SlotName.One Function.Execute) ws = refl
slot_head n (SlotName.One Function.Open) ws = refl
slot_head n (SlotName.One Function.Create) ws = refl
slot_head n (SlotName.One Function.Unlink) ws = refl
slot_head n (SlotName.One Function.Getattr) ws = refl
slot_head n (SlotName.One Function.Mkdir) ws = refl
slot_head n (SlotName.One Function.Rmdir) ws = refl
slot_head n (SlotName.One Function.Mkfifo) ws = refl
slot_head n (SlotName.One Function.Mksock) ws = refl
slot_head n (SlotName.One Function.Truncate) ws = refl
slot_head n (SlotName.One Function.Symlink) ws = refl
slot_head n (SlotName.One Function.Mkblock) ws = refl
slot_head n (SlotName.One Function.Mkchar) ws = refl
slot_head n (SlotName.One Function.Link) ws = refl
slot_head n (SlotName.One Function.Rename) ws = refl
slot_head n (SlotName.One Function.Chmod) ws = refl
slot_head n (SlotName.One Function.Chown) ws = refl
slot_head n (SlotName.One Function.Chgrp) ws = refl
slot_head n (SlotName.One Function.Ioctl) ws = refl
slot_head n (SlotName.One Function.Chroot) ws = refl
slot_head n (SlotName.One Function.Mount) ws = refl
slot_head n (SlotName.One Function.Unmount) ws = refl
slot_head n (SlotName.One Function.PivotRoot) ws = refl
slot_head n (SlotName.One Function.InetStreamBind) ws = refl
slot_head n (SlotName.One Function.InetStreamListen) ws = refl
slot_head n (SlotName.One Function.InetStreamConnect) ws = refl
slot_head n (SlotName.One Function.InetDgramBind) ws = refl
slot_head n (SlotName.One Function.InetDgramSend) ws = refl
slot_head n (SlotName.One Function.InetRawBind) ws = refl
slot_head n (SlotName.One Function.InetRawSend) ws = refl
slot_head n (SlotName.One Function.UnixStreamBind) ws = refl
slot_head n (SlotName.One Function.UnixStreamListen) ws = refl
slot_head n (SlotName.One Function.UnixStreamConnect) ws = refl
slot_head n (SlotName.One Function.UnixDgramBind) ws = refl
slot_head n (SlotName.One Function.UnixDgramSend) ws = refl
slot_head n (SlotName.One Function.UnixSeqpacketBind) ws = refl
slot_head n (SlotName.One Function.UnixSeqpacketListen) ws = refl
slot_head n (SlotName.One Function.UnixSeqpacketConnect) ws = refl
slot_head n (SlotName.One Function.Env) ws = refl

pub slot_again : (n : ℕ) (s : SlotName) (c : Config) → n < 256 → effect_at (headed n (slot_text s ++ codes "={") ∷ setting_words c) ≡ Ok (ProfileEffect.Slot n s (Some (setting_of c)))
slot_again n s c h =
    headed_is n (slot_text s ++ codes "={") (setting_words c) h
    ∙ slot_head n s (setting_words c)
    ∙ ap (λ (r : Result Setting LineKind). r >>= λ setting. Ok (ProfileEffect.Slot n s (Some setting))) (setting_again c)

pub slot_proper : (s : SlotName) → is_solid (slot_text s ++ codes "={") ≡ true
unfolding slot_text function_text
slot_proper SlotName.File = refl
slot_proper SlotName.Network = refl
slot_proper SlotName.Misc = refl
slot_proper (SlotName.One Function.Execute) = refl
slot_proper (SlotName.One Function.Open) = refl
slot_proper (SlotName.One Function.Create) = refl
slot_proper (SlotName.One Function.Unlink) = refl
slot_proper (SlotName.One Function.Getattr) = refl
slot_proper (SlotName.One Function.Mkdir) = refl
slot_proper (SlotName.One Function.Rmdir) = refl
slot_proper (SlotName.One Function.Mkfifo) = refl
slot_proper (SlotName.One Function.Mksock) = refl
slot_proper (SlotName.One Function.Truncate) = refl
slot_proper (SlotName.One Function.Symlink) = refl
slot_proper (SlotName.One Function.Mkblock) = refl
slot_proper (SlotName.One Function.Mkchar) = refl
slot_proper (SlotName.One Function.Link) = refl
slot_proper (SlotName.One Function.Rename) = refl
slot_proper (SlotName.One Function.Chmod) = refl
slot_proper (SlotName.One Function.Chown) = refl
slot_proper (SlotName.One Function.Chgrp) = refl
slot_proper (SlotName.One Function.Ioctl) = refl
slot_proper (SlotName.One Function.Chroot) = refl
slot_proper (SlotName.One Function.Mount) = refl
slot_proper (SlotName.One Function.Unmount) = refl
slot_proper (SlotName.One Function.PivotRoot) = refl
slot_proper (SlotName.One Function.InetStreamBind) = refl
slot_proper (SlotName.One Function.InetStreamListen) = refl
slot_proper (SlotName.One Function.InetStreamConnect) = refl
slot_proper (SlotName.One Function.InetDgramBind) = refl
slot_proper (SlotName.One Function.InetDgramSend) = refl
slot_proper (SlotName.One Function.InetRawBind) = refl
slot_proper (SlotName.One Function.InetRawSend) = refl
slot_proper (SlotName.One Function.UnixStreamBind) = refl
slot_proper (SlotName.One Function.UnixStreamListen) = refl
slot_proper (SlotName.One Function.UnixStreamConnect) = refl
slot_proper (SlotName.One Function.UnixDgramBind) = refl
slot_proper (SlotName.One Function.UnixDgramSend) = refl
slot_proper (SlotName.One Function.UnixSeqpacketBind) = refl
slot_proper (SlotName.One Function.UnixSeqpacketListen) = refl
slot_proper (SlotName.One Function.UnixSeqpacketConnect) = refl
slot_proper (SlotName.One Function.Env) = refl
