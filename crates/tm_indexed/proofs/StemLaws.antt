-- An entry with a stem that a request hasn't doesn't grant it.
use Rattle.std.proofs.Common.{◌≡◌, ◌==◌, Bool, true, false, ◌&&◌, ◌||◌, not, if◌then◌else◌, List, [], ◌∷◌, refl, sym, ap, subst, ◌∙◌, arith}
use Rattle.std.proofs.lemmas.Bool.{and_parts, leb-true}
use Rattle.std.specs.Prelude.{Option, Some, None, is_some, slice_get, take}
use Rattle.std.specs.Option.{option_or, option_map_or}
use Rattle.std.specs.List.{list_any}
use Rattle.tm_word.specs.Prelude.{Pattern, Text, Word, literal_word, matches, texts_equal}
use Rattle.tm_rules.specs.Types.{Addr, AddrRange, AddrUnion, Args, Entry, Groups, NameUnion, Proc, Request, argument_words, name_value}
use Rattle.tm_number.specs.Addresses.{addr_le, addr_range_has}
use Rattle.tm_rules.specs.Prelude.{addr_in, addr_value, addrs_equal, args_grant, grants, has_permission, holds, inet_place, name_in, number_in, number_value, when}
use Rattle.tm_rules.proofs.EqualityLaws.{same_addrs, same_texts}
use Rattle.tm_index.specs.Stems.{addr_stem, union_stem, stem_room, pattern_stem, addr_of, stem_by, stem_of, name_stems, stems_asked}
use Rattle.tm_index.specs.Names.{pattern_of, first_pattern, literal_of}
use Rattle.tm_index.specs.Listing.{has_neither}
use Rattle.tm_indexed.specs.Candidates.{is_wanted, has_some_stem}
use Rattle.tm_indexed.proofs.NameLaws.{when-none, other-literal}
use Rattle.tm_indexed.proofs.FrontLaws.{pattern_stemmed}

-- between an address and itself there is no other
between : (low a : Addr) → addr_le low a ≡ true → addr_le a low ≡ true → a ≡ low
between (Addr.V4 x) (Addr.V4 y) h k = let less = leb-true x y h in let more = leb-true y x k in let same : y ≡ x = omega (arith, less, more) in ap Addr.V4 same
between (Addr.V6 x) (Addr.V6 y) h k = let less = leb-true x y h in let more = leb-true y x k in let same : y ≡ x = omega (arith, less, more) in ap Addr.V6 same
between (Addr.V4 x) (Addr.V6 y) h k = absurd cc
between (Addr.V6 x) (Addr.V4 y) h k = absurd cc

-- a range of one address has no other
single : (range : AddrRange) (a : Addr) → addrs_equal range.low range.high ≡ true → addr_range_has range a ≡ true → a ≡ range.low
single range a e h =
    let parts = and_parts (addr_le range.low a) (addr_le a range.high) h in
    between range.low a parts.0 (subst (λ b. addr_le a b ≡ true) (sym (same_addrs.sound range.low range.high e)) parts.1)

-- an address argument of another stem hasn't the address
union-apart : (g : Groups) (u : AddrUnion) (s : Text) (a : Addr) → union_stem u ≡ Some s → texts_equal (addr_stem a) s ≡ false → addr_in g u a ≡ false
unfolding addr_in
union-apart g (AddrUnion.Group group) s a h apart = absurd cc
union-apart g (AddrUnion.One range) s a h apart = go (addrs_equal range.low range.high) (addr_range_has range a) refl refl h
  where
    go : (b c : Bool) → addrs_equal range.low range.high ≡ b → addr_range_has range a ≡ c → (if b then Some (addr_stem range.low) else None) ≡ Some s → addr_range_has range a ≡ false
    go b false e f k = f
    go false true e f k = absurd cc
    go true true e f k =
        let stem : addr_stem range.low ≡ s = cc in
        let own : addr_stem a ≡ s = ap addr_stem (single range a e f) ∙ stem in
        let same : texts_equal (addr_stem a) s ≡ true = subst (λ t. texts_equal t s ≡ true) (sym own) (same_texts.full s) in
        absurd cc

or-false : (b : Bool) → (b || false) ≡ false → b ≡ false
or-false false h = refl
or-false true h = absurd cc

middle-false : (a b c : Bool) → b ≡ false → (a && b && c) ≡ false
middle-false true false c h = refl
middle-false false b c h = refl
middle-false true true c h = absurd cc

when-false : {A : Type 0} (b : Bool) (o : Option A) → b ≡ false → when b o ≡ None
when-false false o e = refl
when-false true o e = absurd cc

-- a pattern of another stem doesn't match the name
pattern-unstemmed : (p : Pattern) (s : Text) (name : Word) → pattern_stem p ≡ Some s → list_any (λ t. texts_equal t s) (name_stems (take stem_room name)) ≡ false → matches p name ≡ false
pattern-unstemmed p s name h apart = go (matches p name) refl
  where
    go : (b : Bool) → matches p name ≡ b → matches p name ≡ false
    go false e = e
    go true e = let among = pattern_stemmed p s name h e in absurd cc

name-unstemmed : (g : Groups) (n : NameUnion) (s : Text) (name : Word) → stem_by (pattern_of n) None ≡ Some s → list_any (λ t. texts_equal t s) (name_stems (take stem_room name)) ≡ false → name_in g n name ≡ None
unfolding name_in
name-unstemmed g (NameUnion.One p) s name h apart = rw (pattern-unstemmed p s name h apart) refl
name-unstemmed g (NameUnion.Group group) s name h apart = absurd cc

-- a request that hasn't the stem of a line isn't granted by it
args-unstemmed : (g : Groups) (a r : Args) (s : Text) → stem_by (first_pattern a) (addr_of a) ≡ Some s → list_any (λ t. texts_equal t s) (stems_asked r) ≡ false → args_grant g a r ≡ None
unfolding args_grant stems_asked
args-unstemmed g (Args.Path n) (Args.Path n') s h apart = name-unstemmed g n s (name_value n') h apart
args-unstemmed g (Args.Execute n prefer) (Args.Path n') s h apart = name-unstemmed g n s (name_value n') h apart
args-unstemmed g (Args.PathNumber n k) (Args.PathNumber n' k') s h apart = when-none (number_in g k (number_value k')) (name_in g n (name_value n')) (name-unstemmed g n s (name_value n') h apart)
args-unstemmed g (Args.Device n a b c) (Args.Device n' a' b' c') s h apart =
    when-none (number_in g a (number_value a') && number_in g b (number_value b') && number_in g c (number_value c')) (name_in g n (name_value n')) (name-unstemmed g n s (name_value n') h apart)
args-unstemmed g (Args.Path2 n m) (Args.Path2 n' m') s h apart = when-none (is_some (name_in g m (name_value m'))) (name_in g n (name_value n')) (name-unstemmed g n s (name_value n') h apart)
args-unstemmed g (Args.Mount d p k f) (Args.Mount d' p' k' f') s h apart =
    when-none (is_some (name_in g p (name_value p')) && is_some (name_in g k (name_value k')) && number_in g f (number_value f')) (name_in g d (name_value d')) (name-unstemmed g d s (name_value d') h apart)
args-unstemmed g (Args.Unix k n) (Args.Unix k' n') s h apart = when-none _ (name_in g n (name_value n')) (name-unstemmed g n s (name_value n') h apart)
args-unstemmed g (Args.Env p) (Args.Env p') s h apart = rw (pattern-unstemmed p s (literal_word p') h apart) refl
args-unstemmed g (Args.Inet k u p) (Args.Inet k' u' p') s h apart =
    when-false (inet_place k == inet_place k' && addr_in g u (addr_value u') && number_in g p (number_value p')) _
    (middle-false (inet_place k == inet_place k') (addr_in g u (addr_value u')) (number_in g p (number_value p'))
    (union-apart g u s (addr_value u') h (or-false (texts_equal (addr_stem (addr_value u')) s) apart)))
args-unstemmed g (Args.Manual d) r s h apart = absurd cc
args-unstemmed g _ _ s h apart = refl

open-stem : (b : Bool) (o : Option Text) (s : Text) → (if b then None else o) ≡ Some s → o ≡ Some s
open-stem false o s h = h
open-stem true o s h = absurd cc

stem-open : (args : Args) (s : Text) → stem_of args ≡ Some s → stem_by (first_pattern args) (addr_of args) ≡ Some s
unfolding stem_of
stem-open args s h = open-stem (is_some (literal_of args)) (stem_by (first_pattern args) (addr_of args)) s h

some-stem : (entry : Entry) (s : Text) → stem_of entry.args ≡ Some s → (stems : List Text) → has_some_stem stems entry ≡ list_any (λ t. texts_equal t s) stems
some-stem entry s e [] = refl
some-stem entry s e (t ∷ ts) = ap (λ o. option_map_or (texts_equal t) o false || has_some_stem ts entry) e ∙ ap (λ b. texts_equal t s || b) (some-stem entry s e ts)

-- an entry that isn't looked at
pub record Past (a b c : Bool) : Type 0 where
  pub named : a ≡ false
  pub neither : b ≡ false
  pub stemmed : c ≡ false

-- it doesn't grant
pub looked-past : (groups : Groups) (process : Proc) (request : Request) (name : Option Word) (entry : Entry) → name ≡ slice_get (argument_words request.args) 0
    → Past (is_wanted name entry) (has_neither entry) (has_some_stem (stems_asked request.args) entry) → grants groups process request entry ≡ None
unfolding grants
looked-past groups process request name entry e past = go (stem_of entry.args) refl past.neither
  where
    go : (o : Option Text) → stem_of entry.args ≡ o → not (is_some (option_or o (literal_of entry.args))) ≡ false → grants groups process request entry ≡ None
    go None f k = other-literal groups process request name entry e past.named k
    go (Some s) f k =
        when-none (has_permission entry.perms.bits request.perm && holds entry.cond groups process request) (args_grant groups entry.args request.args)
        (args-unstemmed groups entry.args request.args s (stem-open entry.args s f) (sym (some-stem entry s f (stems_asked request.args)) ∙ past.stemmed))
