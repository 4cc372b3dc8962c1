-- A word without a slash that is a permission writes this one.
use Rattle.std.specs.Prelude.{◌≡◌, ℕ, Bool, ◌&&◌, ◌==◌, List, [], ◌∷◌, Some, None, Ok, bit_or}
use Rattle.std.proofs.Common.{ap, ◌∙◌}
use Rattle.std.specs.List.{position}
use Rattle.tm_word.specs.Prelude.{Text}
use Rattle.tm_word.proofs.Cuts.{cut_none}
use Rattle.tm_line.specs.declared.permissions.Row.{Row}
use Rattle.tm_line.specs.Permissions.{mask_in, pieces_of, with_mask, bits_of, finishes, bits_or_kind, perms_of}

pub one_perm : (acl_row : Row) (word : Text) (mask : ℕ) → position (λ b. b == 47) word ≡ None → mask_in acl_row word ≡ Some mask → (last : Bool) → perms_of acl_row word last ≡ Ok (bit_or 0 mask)
unfolding perms_of
one_perm acl_row word mask none some last =
    let one : pieces_of word ≡ word ∷ [] = cut_none (λ b. b == 47) word none in
    ap (λ (pieces : List Text). bits_or_kind (bits_of 0 acl_row pieces) (last && finishes acl_row pieces)) one
    ∙ ap (λ m. bits_or_kind (with_mask m 0 (λ bits. Some bits)) (last && finishes acl_row (word ∷ []))) some
