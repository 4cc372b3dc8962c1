-- Words of more pieces than a field has.
use Rattle.std.proofs.Common.{◌≡◌, ◌==◌, ◌∷◌, None, refl}
use Rattle.tm_word.specs.Prelude.{Text, pieces}
use Rattle.tm_word.proofs.Cuts.{pieces_of}
use Rattle.tm_rules.specs.Types.{EditReply, Held, MakeReply, Move, Reason}
use Rattle.tm_run.specs.Fields.{reason_in, move_in, heard_in}
use Rattle.tm_run.specs.Replies.{made_in, held_in, edited_in}

pub reason_more : (word group other rest : Text) → reason_in (word ∷ group ∷ other ∷ pieces 58 rest) ≡ Reason.NoManual
reason_more word group other rest = rw ((pieces_of (λ b. b == 58) rest).are) refl

pub move_more : (word domain rest : Text) → move_in (word ∷ domain ∷ pieces 58 rest) ≡ Move.Fail
move_more word domain rest = rw ((pieces_of (λ b. b == 58) rest).are) refl

pub heard_more : (answer version rest : Text) → heard_in (answer ∷ version ∷ pieces 64 rest) ≡ None
heard_more answer version rest = rw ((pieces_of (λ b. b == 64) rest).are) refl

pub make_more : (word domain rest : Text) → made_in (word ∷ domain ∷ pieces 58 rest) ≡ MakeReply.Old 0
make_more word domain rest = rw ((pieces_of (λ b. b == 58) rest).are) refl

pub held_more : (word serial rest : Text) → held_in (word ∷ serial ∷ pieces 58 rest) ≡ Held.Nobody
held_more word serial rest = rw ((pieces_of (λ b. b == 58) rest).are) refl

pub edit_more : (word kind rest : Text) → edited_in (word ∷ kind ∷ pieces 58 rest) ≡ EditReply.Done
edit_more word kind rest = rw ((pieces_of (λ b. b == 58) rest).are) refl
