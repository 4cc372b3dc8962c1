-- Whether a text is read depends on its tokens alone, and on the stage and the repeat of each
-- state.
use Rattle.std.specs.Prelude.{map, min}
use Rattle.std.specs.Result.{is_ok}
use Rattle.std.proofs.Common.{◌≡◌, ℕ, zero, suc, ◌+◌, ◌-◌, ◌≤◌, ◌==◌, Bool, true, false, cond, ◌&&◌, List, [], ◌∷◌, length, take, drop, get_or, Option, Some, None, Result, Ok, Err, refl, sym, ap, ◌∙◌, arith}
use Rattle.std.proofs.Common.{length-drop}
use Rattle.std.proofs.lemmas.Grind.{common_steps}
use Rattle.std.proofs.lemmas.List.{drop_min}
use Rattle.std.proofs.Math.Seq.{take-length}
use Rattle.std.proofs.lemmas.Bool.{ne_eqb}
use Rattle.tm_word.specs.Prelude.{◌>>=◌}
use Rattle.tm_word.specs.declared.Element.{Element}
use Rattle.tm_word.specs.declared.Component.{Component}
use Rattle.tm_word.specs.declared.Repeat.{Repeat}
use Rattle.tm_word.specs.declared.Repeat.TheVariants.{Once}
use Rattle.tm_pattern.specs.declared.token.Token.{Token}
use Rattle.tm_pattern.specs.declared.token.Token.TheVariants as token
use Rattle.tm_pattern.specs.declared.token.Placed.{Placed}
use Rattle.tm_pattern.specs.declared.token.Sized.{Sized}
use Rattle.tm_pattern.specs.declared.reading.PatternFault.{PatternFault}
use Rattle.tm_pattern.specs.declared.reading.PatternFault.TheVariants.{LoneBrace, EmptyPart}
use Rattle.tm_pattern.specs.declared.reading.Stage.{Stage}
use Rattle.tm_pattern.specs.declared.reading.Stage.TheVariants as stage
use Rattle.tm_pattern.specs.declared.reading.State.{State}
use Rattle.tm_pattern.specs.Tokens.{placed, token_at, tokens}
use Rattle.tm_pattern.specs.Reading.{same_repeat, closes, is_slash, begins_with_slash, opened, closed, cut_front, cut, begun, finished, stepped, step, ended_at, ended, parsed, pattern_of}
use Rattle.tm_pattern.specs.Checking.{IsCut, loose, bare, control}

abbrev loosen : List Placed → List Placed
loosen items = map (λ item. placed 0 item.token) items

-- tokens are the same wherever they stand, and past some bytes they are those of the rest
moved : (text : List ℕ) (p q skip : ℕ) → loosen (tokens p skip text) ≡ loosen (tokens q skip text)
moved [] p q skip = refl
moved (b ∷ text) p q zero = ap (λ (items : List Placed). placed 0 (token_at b text).token ∷ items) (moved text (p + 1) (q + 1) (token_at b text).more)
moved (b ∷ text) p q (suc k) =
    let no : (suc k == 0) ≡ false = ne_eqb (suc k) 0 (λ h. absurd (omega (arith, h))) in
    rw no (moved text (p + 1) (q + 1) (suc k - 1))

past : (text : List ℕ) (p skip : ℕ) → loosen (tokens p skip text) ≡ loosen (tokens 0 0 (drop skip text))
past text p zero = moved text p 0 0
past [] p (suc k) = refl
past (b ∷ text) p (suc k) =
    let no : (suc k == 0) ≡ false = ne_eqb (suc k) 0 (λ h. absurd (omega (arith, h))) in
    let less : suc k - 1 ≡ k = omega arith in
    let step : tokens p (suc k) (b ∷ text) ≡ tokens (p + 1) k text = rw (no, less) refl in
    ap loosen step ∙ past text (p + 1) k

pub cut_tokens : (b : ℕ) (text : List ℕ) → loose (b ∷ text) ≡ placed 0 (token_at b text).token ∷ loose (drop (token_at b text).more text)
cut_tokens b text = ap (λ (items : List Placed). placed 0 (token_at b text).token ∷ items) (past text 1 (token_at b text).more)

-- the same tokens
abbrev pub SameTokens : List Placed → List Placed → Type 0
SameTokens [] [] = Unit {0}
SameTokens [] (y ∷ ys) = ⊥
SameTokens (x ∷ xs) [] = ⊥
SameTokens (x ∷ xs) (y ∷ ys) = (x.token ≡ y.token) × SameTokens xs ys

pub same_loose : (items : List Placed) → SameTokens items (loosen items)
same_loose [] = tt
same_loose (item ∷ items) = (refl, same_loose items)

same_self : (items : List Placed) → SameTokens items items
same_self [] = tt
same_self (item ∷ items) = (refl, same_self items)

same_closes : (kind : Repeat) (xs ys : List Placed) → SameTokens xs ys → closes kind xs ≡ closes kind ys
same_closes kind [] [] h = refl
same_closes kind [] (y ∷ ys) h = absurd h
same_closes kind (x ∷ xs) [] h = absurd h
same_closes kind (x ∷ xs) (y ∷ ys) h = let t = h.0 in let more = same_closes kind xs ys h.1 in rw (t, more) refl

same_slash : (xs ys : List Placed) → SameTokens xs ys → begins_with_slash xs ≡ begins_with_slash ys
same_slash [] [] h = refl
same_slash [] (y ∷ ys) h = absurd h
same_slash (x ∷ xs) [] h = absurd h
same_slash (x ∷ xs) (y ∷ ys) h = ap is_slash h.0

-- where a step leads

chosen_control : (b d : Bool) (x y : State) (f g : PatternFault) → b ≡ d → control (Ok x) ≡ control (Ok y) → control (cond b (Ok x) (Err f)) ≡ control (cond d (Ok y) (Err g))
chosen_control true true x y f g e h = h
chosen_control false false x y f g e h = refl
chosen_control true false x y f g e h = absurd cc
chosen_control false true x y f g e h = absurd cc

no_control : (b d : Bool) (f g h k : PatternFault) → control (cond b (Err f) (Err g)) ≡ control (cond d (Err h) (Err k))
no_control true true f g h k = refl
no_control true false f g h k = refl
no_control false true f g h k = refl
no_control false false f g h k = refl

cut_control : (s t : State) (front other : Option (List Element)) → s.repeat ≡ t.repeat → control (Ok (cut_front s front)) ≡ control (Ok (cut_front t other))
cut_control s t None None e = ap (λ (kind : Repeat). Some (stage.Needs, kind)) e
cut_control s t None (Some first) e = ap (λ (kind : Repeat). Some (stage.Needs, kind)) e
cut_control s t (Some first) None e = ap (λ (kind : Repeat). Some (stage.Needs, kind)) e
cut_control s t (Some first) (Some second) e = ap (λ (kind : Repeat). Some (stage.Needs, kind)) e

same_steps : (s t : State) (at : Stage) (x : Token) (p q : ℕ) (xs ys : List Placed) → s.repeat ≡ t.repeat → SameTokens xs ys
    → control (stepped s at x p xs) ≡ control (stepped t at x q ys)
same_steps s t stage.Start token.Bad p q xs ys e h = refl
same_steps s t stage.After token.Bad p q xs ys e h = refl
same_steps s t stage.Needs token.Bad p q xs ys e h = refl
same_steps s t stage.Has token.Bad p q xs ys e h = refl
same_steps s t stage.Closed token.Bad p q xs ys e h = refl
same_steps s t stage.Start (token.Element x) p q xs ys e h = ap (λ (kind : Repeat). Some (stage.Has, kind)) e
same_steps s t stage.After (token.Element x) p q xs ys e h = ap (λ (kind : Repeat). Some (stage.Has, kind)) e
same_steps s t stage.Needs (token.Element x) p q xs ys e h = ap (λ (kind : Repeat). Some (stage.Has, kind)) e
same_steps s t stage.Has (token.Element x) p q xs ys e h = ap (λ (kind : Repeat). Some (stage.Has, kind)) e
same_steps s t stage.Closed (token.Element x) p q xs ys e h = refl
same_steps s t stage.Start token.Slash p q xs ys e h = chosen_control (same_repeat s.repeat Once) (same_repeat t.repeat Once) (begun (finished s) stage.After) (begun (finished t) stage.After) (LoneBrace p) (LoneBrace q) (ap (λ kind. same_repeat kind Once) e) refl
same_steps s t stage.After token.Slash p q xs ys e h = chosen_control (same_repeat s.repeat Once) (same_repeat t.repeat Once) (begun (finished s) stage.After) (begun (finished t) stage.After) (LoneBrace p) (LoneBrace q) (ap (λ kind. same_repeat kind Once) e) refl
same_steps s t stage.Needs token.Slash p q xs ys e h = refl
same_steps s t stage.Has token.Slash p q xs ys e h = chosen_control (same_repeat s.repeat Once) (same_repeat t.repeat Once) (begun (finished s) stage.After) (begun (finished t) stage.After) (LoneBrace p) (LoneBrace q) (ap (λ kind. same_repeat kind Once) e) refl
same_steps s t stage.Closed token.Slash p q xs ys e h = refl
same_steps s t stage.Start (token.Open kind) p q xs ys e h = refl
same_steps s t stage.After (token.Open kind) p q xs ys e h = chosen_control (closes kind xs) (closes kind ys) (opened s kind) (opened t kind) (LoneBrace p) (LoneBrace q) (same_closes kind xs ys h) refl
same_steps s t stage.Needs (token.Open kind) p q xs ys e h = refl
same_steps s t stage.Has (token.Open kind) p q xs ys e h = refl
same_steps s t stage.Closed (token.Open kind) p q xs ys e h = refl
same_steps s t stage.Start (token.Close kind) p q xs ys e h = refl
same_steps s t stage.After (token.Close kind) p q xs ys e h = refl
same_steps s t stage.Needs (token.Close kind) p q xs ys e h = no_control (same_repeat s.repeat kind && begins_with_slash xs) (same_repeat t.repeat kind && begins_with_slash ys) (EmptyPart p) (LoneBrace p) (EmptyPart q) (LoneBrace q)
same_steps s t stage.Has (token.Close kind) p q xs ys e h =
    let slash = same_slash xs ys h in
    let both : (same_repeat s.repeat kind && begins_with_slash xs) ≡ (same_repeat t.repeat kind && begins_with_slash ys) = rw (e, slash) refl in
    chosen_control (same_repeat s.repeat kind && begins_with_slash xs) (same_repeat t.repeat kind && begins_with_slash ys) (closed s) (closed t) (LoneBrace p) (LoneBrace q) both (ap (λ (other : Repeat). Some (stage.Closed, other)) e)
same_steps s t stage.Closed (token.Close kind) p q xs ys e h = refl
same_steps s t stage.Start token.Minus p q xs ys e h = refl
same_steps s t stage.After token.Minus p q xs ys e h = refl
same_steps s t stage.Needs token.Minus p q xs ys e h = refl
same_steps s t stage.Has token.Minus p q xs ys e h = cut_control s t s.front t.front e
same_steps s t stage.Closed token.Minus p q xs ys e h = refl

abbrev read : List Component → Bool → PatternFault → Result (List Component) PatternFault
read x b f = cond b (Ok x) (Err f)

once : (b d : Bool) (x y : List Component) (f g : PatternFault) → b ≡ d → is_ok (read x b f) ≡ is_ok (read y d g)
once true true x y f g e = refl
once false false x y f g e = refl
once true false x y f g e = absurd cc
once false true x y f g e = absurd cc

same_end : (s t : State) (at : Stage) (p q : ℕ) → s.repeat ≡ t.repeat → is_ok (ended_at s at p) ≡ is_ok (ended_at t at q)
same_end s t stage.Needs p q e = refl
same_end s t stage.Closed p q e = refl
same_end s t stage.Start p q e = once (same_repeat s.repeat Once) (same_repeat t.repeat Once) (finished s) (finished t) (LoneBrace p) (LoneBrace q) (ap (λ kind. same_repeat kind Once) e)
same_end s t stage.After p q e = once (same_repeat s.repeat Once) (same_repeat t.repeat Once) (finished s) (finished t) (LoneBrace p) (LoneBrace q) (ap (λ kind. same_repeat kind Once) e)
same_end s t stage.Has p q e = once (same_repeat s.repeat Once) (same_repeat t.repeat Once) (finished s) (finished t) (LoneBrace p) (LoneBrace q) (ap (λ kind. same_repeat kind Once) e)

-- ---- the whole of it

abbrev led : Stage → Repeat → Option (Stage × Repeat)
led at kind = Some (at, kind)

abbrev stage_in : Option (Stage × Repeat) → Stage
stage_in None = stage.Start
stage_in (Some next) = next.0

abbrev repeat_in : Option (Stage × Repeat) → Repeat
repeat_in None = Once
repeat_in (Some next) = next.1

some_pair : (a b : Stage) (k l : Repeat) → led a k ≡ led b l → (a ≡ b) × (k ≡ l)
some_pair a b k l e = (ap stage_in e, ap repeat_in e)

pub same_parse : (xs ys : List Placed) (s t : State) (p q : ℕ) → s.stage ≡ t.stage → s.repeat ≡ t.repeat → SameTokens xs ys
    → is_ok (parsed s xs p) ≡ is_ok (parsed t ys q)
unfolding parsed ended step
same_parse [] [] s t p q at e h = same_end s t s.stage p q e ∙ ap (λ (x : Stage). is_ok (ended_at t x q)) at
same_parse [] (y ∷ ys) s t p q at e h = absurd h
same_parse (x ∷ xs) [] s t p q at e h = absurd h
same_parse (x ∷ xs) (y ∷ ys) s t p q at e h =
    by (stepped s s.stage x.token x.place xs) (stepped t t.stage y.token y.place ys)
    (same_steps s t s.stage x.token x.place y.place xs ys e h.1 ∙ ap (λ (z : Stage). control (stepped t z x.token y.place ys)) at ∙ ap (λ (z : Token). control (stepped t t.stage z y.place ys)) h.0)
    (λ n m at e. same_parse xs ys n m p q at e h.1)
  where
    by : (r o : Result State PatternFault) → control r ≡ control o
        → ((n m : State) → n.stage ≡ m.stage → n.repeat ≡ m.repeat → is_ok (parsed n xs p) ≡ is_ok (parsed m ys q))
        → is_ok (r >>= λ n. parsed n xs p) ≡ is_ok (o >>= λ m. parsed m ys q)
    by (Ok n) (Ok m) same go = let both = some_pair n.stage m.stage n.repeat m.repeat same in go n m both.0 both.1
    by (Err f) (Err g) same go = refl
    by (Ok n) (Err g) same go = absurd cc
    by (Err f) (Ok m) same go = absurd cc

-- the first token is cut off
pub cut_is : (text others : List ℕ) (b taken : ℕ) (sized : Sized) → text ≡ b ∷ others → sized ≡ token_at b others → taken ≡ min sized.more (length others)
    → IsCut text sized.token (take (length others - taken) (drop taken others))
cut_is text others b taken sized is at low =
    let whole : take (length others - taken) (drop taken others) ≡ drop taken others = grind (arith, common_steps) in
    let same : drop taken others ≡ drop sized.more others = ap (λ k. drop k others) low ∙ drop_min sized.more others in
    let long : length text ≡ suc (length others) = ap length is in
    let less : length (drop taken others) ≡ length others - taken = length-drop taken others in
    rw whole (record {
      parts = ap loose is ∙ cut_tokens b others ∙ rw (same, at) refl;
      shorter = omega arith;
    })

-- the same of a text's first byte and the others
pub cut_slice : (text others : List ℕ) (taken : ℕ) (sized : Sized) → 1 ≤ length text → others ≡ take (length text - 1) (drop 1 text) → sized ≡ token_at (get_or text 0 0) others
    → taken ≡ min sized.more (length others) → IsCut text sized.token (take (length others - taken) (drop taken others))
cut_slice [] others taken sized low is at le = absurd (omega arith)
cut_slice (b ∷ text) others taken sized low is at le =
    let less : suc (length text) - 1 ≡ length text = omega arith in
    let whole : others ≡ text = is ∙ rw less (take-length text) in
    cut_is (b ∷ text) others b taken sized (ap (λ rest. b ∷ rest) (sym whole)) at le

-- whether a text is read is told by its tokens
pub starts : (text : List ℕ) → is_ok (parsed (bare stage.Start Once) (loose text) 0) ≡ is_ok (pattern_of text)
unfolding pattern_of
starts text = sym (same_parse (tokens 0 0 text) (loose text) (begun [] stage.Start) (bare stage.Start Once) (length text) 0 refl refl (same_loose (tokens 0 0 text)))

-- one token on
pub goes_on : (text rest : List ℕ) (t : Token) (at next : Stage × Repeat) → IsCut text t rest
    → Some next ≡ control (stepped (bare at.0 at.1) at.0 t 0 (loose rest))
    → is_ok (parsed (bare at.0 at.1) (loose text) 0) ≡ is_ok (parsed (bare next.0 next.1) (loose rest) 0)
unfolding parsed step
goes_on text rest t at next cut e = rw cut.parts (by (stepped (bare at.0 at.1) at.0 t 0 (loose rest)) e)
  where
    by : (r : Result State PatternFault) → Some next ≡ control r → is_ok (r >>= λ n. parsed n (loose rest) 0) ≡ is_ok (parsed (bare next.0 next.1) (loose rest) 0)
    by (Ok n) h =
        let both = some_pair next.0 n.stage next.1 n.repeat h in
        same_parse (loose rest) (loose rest) n (bare next.0 next.1) 0 0 (sym both.0) (sym both.1) (same_self (loose rest))
    by (Err f) h = absurd cc

pub stops : (text rest : List ℕ) (t : Token) (at : Stage × Repeat) → IsCut text t rest
    → None ≡ control (stepped (bare at.0 at.1) at.0 t 0 (loose rest)) → is_ok (parsed (bare at.0 at.1) (loose text) 0) ≡ false
unfolding parsed step
stops text rest t at cut e = rw cut.parts (by (stepped (bare at.0 at.1) at.0 t 0 (loose rest)) e)
  where
    by : (r : Result State PatternFault) → None ≡ control r → is_ok (r >>= λ n. parsed n (loose rest) 0) ≡ false
    by (Ok n) h = absurd cc
    by (Err f) h = refl

pub ends : (text : List ℕ) (at : Stage × Repeat) → loose text ≡ [] → is_ok (parsed (bare at.0 at.1) (loose text) 0) ≡ is_ok (ended_at (bare at.0 at.1) at.0 0)
unfolding parsed ended
ends text at e = rw e refl
