-- No request that a record tells is a manual transition.
use Rattle.std.proofs.Common.{◌≡◌, ℕ, Bool, true, false, true≢false, if◌then◌else◌, List, [], ◌∷◌, refl}
use Rattle.std.specs.Prelude.{Option, Some, None, Result, Ok, Err, codes}
use Rattle.tm_word.specs.Prelude.{Text, texts_equal, ◌>>=◌}
use Rattle.tm_rules.specs.Types.{Args, Attributes, LineKind, Request}
use Rattle.tm_line.specs.declared.permissions.Row.{Row}
use Rattle.tm_line.specs.Lines.{word_at}
use Rattle.tm_file.specs.FileLines.{row_of}
use Rattle.tm_net.specs.NetLines.{inet_kind, unix_kind, inet_permissions, unix_permissions}
use Rattle.tm_trace.specs.Requests.{or_keyword, one_of, only_at, place_in, literal_name, path_name, single_number, single_address, env_name, args_at, mount_at, with_perm, row_request, file_request, inet_request, unix_request, network_request, misc_request, task_request, request_line}
use Rattle.tm_log.specs.declared.faults.Reason.{Reason}
use Rattle.tm_log.specs.declared.header.Header.{Header}
use Rattle.tm_log.specs.Reasons.{for_reason}
use Rattle.tm_log.specs.Records.{is_flag, is_task, whole, whole_request, attributes_of, with_attributes, asked}
use Rattle.tm_log_trace_laws.specs.Told.{IsNoManual}
use Rattle.tm_log_trace_laws.proofs.Passing.{OkIs, bound, anything, reasoned}

abbrev NoManual : Args × List Text → Type 0
NoManual x = IsNoManual x.0

abbrev NoManualAt : Args × ℕ × List Text → Type 0
NoManualAt x = IsNoManual x.0

perm-no : (perm : ℕ) (read : Result (Args × List Text) LineKind) → OkIs NoManual read → OkIs NoManualAt (with_perm perm read)
perm-no perm (Ok x) h = h
perm-no perm (Err e) h = tt

args-no : (acl_row : Row) (perm : ℕ) (words : List Text) → OkIs NoManual (args_at acl_row perm words)
unfolding args_at
args-no Row.Path perm words = anything NoManual (word_at (path_name perm) words) (λ name. Ok (Args.Path name.0, name.1)) (λ name. tt)
args-no Row.PathNumber perm words =
    anything NoManual (word_at literal_name words) (λ name. word_at single_number name.1 >>= λ number. Ok (Args.PathNumber name.0 number.0, number.1))
    (λ name. anything NoManual (word_at single_number name.1) (λ number. Ok (Args.PathNumber name.0 number.0, number.1)) (λ number. tt))
args-no Row.Device perm words =
    anything NoManual (word_at literal_name words) (λ name. word_at single_number name.1 >>= λ mode. word_at single_number mode.1 >>= λ major. word_at single_number major.1 >>= λ minor. Ok (Args.Device name.0 mode.0 major.0 minor.0, minor.1))
    (λ name. anything NoManual (word_at single_number name.1) (λ mode. word_at single_number mode.1 >>= λ major. word_at single_number major.1 >>= λ minor. Ok (Args.Device name.0 mode.0 major.0 minor.0, minor.1))
    (λ mode. anything NoManual (word_at single_number mode.1) (λ major. word_at single_number major.1 >>= λ minor. Ok (Args.Device name.0 mode.0 major.0 minor.0, minor.1))
    (λ major. anything NoManual (word_at single_number major.1) (λ minor. Ok (Args.Device name.0 mode.0 major.0 minor.0, minor.1)) (λ minor. tt))))
args-no Row.Pair perm words =
    anything NoManual (word_at literal_name words) (λ first. word_at literal_name first.1 >>= λ second. Ok (Args.Path2 first.0 second.0, second.1))
    (λ first. anything NoManual (word_at literal_name first.1) (λ second. Ok (Args.Path2 first.0 second.0, second.1)) (λ second. tt))
args-no Row.Listening perm words = tt
args-no Row.Sending perm words = tt

mount-no : (words : List Text) → OkIs NoManual (mount_at words)
unfolding mount_at
mount-no words =
    anything NoManual (word_at literal_name words) (λ device. word_at literal_name device.1 >>= λ dir. word_at literal_name dir.1 >>= λ type. word_at single_number type.1 >>= λ flags. Ok (Args.Mount device.0 dir.0 type.0 flags.0, flags.1))
    (λ device. anything NoManual (word_at literal_name device.1) (λ dir. word_at literal_name dir.1 >>= λ type. word_at single_number type.1 >>= λ flags. Ok (Args.Mount device.0 dir.0 type.0 flags.0, flags.1))
    (λ dir. anything NoManual (word_at literal_name dir.1) (λ type. word_at single_number type.1 >>= λ flags. Ok (Args.Mount device.0 dir.0 type.0 flags.0, flags.1))
    (λ type. anything NoManual (word_at single_number type.1) (λ flags. Ok (Args.Mount device.0 dir.0 type.0 flags.0, flags.1)) (λ flags. tt))))

row-no : (o : Option Row) (word : Text) (words : List Text) → OkIs NoManualAt (row_request o word words)
row-no None word words = tt
row-no (Some acl_row) word words =
    anything NoManualAt (or_keyword (place_in acl_row word)) (λ perm. with_perm perm (args_at acl_row perm words)) (λ perm. perm-no perm (args_at acl_row perm words) (args-no acl_row perm words))

file-no : (words : List Text) → OkIs NoManualAt (file_request words)
unfolding file_request
file-no [] = tt
file-no (word ∷ words) = by (texts_equal word (codes "mount"))
  where
    by : (b : Bool) → OkIs NoManualAt (if b then with_perm 0 (mount_at words) else row_request (row_of word) word words)
    by true = perm-no 0 (mount_at words) (mount-no words)
    by false = row-no (row_of word) word words

inet-no : (words : List Text) → OkIs NoManualAt (inet_request words)
unfolding inet_request
inet-no words =
    anything NoManualAt (one_of inet_kind words) (λ kind. one_of (place_in (inet_permissions kind.0)) kind.1 >>= λ perm. word_at single_address perm.1 >>= λ address. word_at single_number address.1 >>= λ port. Ok (Args.Inet kind.0 address.0 port.0, perm.0, port.1))
    (λ kind. anything NoManualAt (one_of (place_in (inet_permissions kind.0)) kind.1) (λ perm. word_at single_address perm.1 >>= λ address. word_at single_number address.1 >>= λ port. Ok (Args.Inet kind.0 address.0 port.0, perm.0, port.1))
    (λ perm. anything NoManualAt (word_at single_address perm.1) (λ address. word_at single_number address.1 >>= λ port. Ok (Args.Inet kind.0 address.0 port.0, perm.0, port.1))
    (λ address. anything NoManualAt (word_at single_number address.1) (λ port. Ok (Args.Inet kind.0 address.0 port.0, perm.0, port.1)) (λ port. tt))))

unix-no : (words : List Text) → OkIs NoManualAt (unix_request words)
unfolding unix_request
unix-no words =
    anything NoManualAt (one_of unix_kind words) (λ kind. one_of (place_in (unix_permissions kind.0)) kind.1 >>= λ perm. word_at literal_name perm.1 >>= λ name. Ok (Args.Unix kind.0 name.0, perm.0, name.1))
    (λ kind. anything NoManualAt (one_of (place_in (unix_permissions kind.0)) kind.1) (λ perm. word_at literal_name perm.1 >>= λ name. Ok (Args.Unix kind.0 name.0, perm.0, name.1))
    (λ perm. anything NoManualAt (word_at literal_name perm.1) (λ name. Ok (Args.Unix kind.0 name.0, perm.0, name.1)) (λ name. tt)))

network-no : (words : List Text) → OkIs NoManualAt (network_request words)
unfolding network_request
network-no [] = tt
network-no (word ∷ words) = by (texts_equal word (codes "inet")) (texts_equal word (codes "unix"))
  where
    by : (b c : Bool) → OkIs NoManualAt (if b then inet_request words else (if c then unix_request words else Err LineKind.Keyword))
    by true c = inet-no words
    by false true = unix-no words
    by false false = tt

misc-no : (words : List Text) → OkIs NoManualAt (misc_request words)
unfolding misc_request
misc-no words =
    anything NoManualAt (only_at (codes "env") words) (λ rest. word_at env_name rest >>= λ name. Ok (Args.Env name.0, 0, name.1))
    (λ rest. anything NoManualAt (word_at env_name rest) (λ name. Ok (Args.Env name.0, 0, name.1)) (λ name. tt))

line-no : (words : List Text) → is_task words ≡ false → OkIs NoManualAt (request_line words)
unfolding request_line
line-no [] e = tt
line-no (word ∷ words) e = by (texts_equal word (codes "file")) (texts_equal word (codes "network")) (texts_equal word (codes "misc")) (texts_equal word (codes "task")) e
  where
    by : (a b c d : Bool) → d ≡ false → OkIs NoManualAt (if a then file_request words else (if b then network_request words else (if c then misc_request words else (if d then task_request words else Err LineKind.Keyword))))
    by true b c d e = file-no words
    by false true c d e = network-no words
    by false false true d e = misc-no words
    by false false false true e = absurd (true≢false e)
    by false false false false e = tt

whole-no : (args : Args) (perm : ℕ) (words : List Text) → IsNoManual args → OkIs (λ (x : Args × ℕ). IsNoManual x.0) (whole args perm words)
whole-no args perm [] h = h
whole-no args perm (word ∷ words) h = tt

request-no : (words : List Text) → OkIs (λ (x : Args × ℕ). IsNoManual x.0) (whole_request words)
unfolding whole_request
request-no words = by (is_task words) refl
  where
    by : (b : Bool) → is_task words ≡ b → OkIs (λ (x : Args × ℕ). IsNoManual x.0) (if b then Err LineKind.Keyword else (request_line words >>= λ x. whole x.0 x.1 x.2))
    by true e = tt
    by false e = bound NoManualAt (λ (x : Args × ℕ). IsNoManual x.0) (request_line words) (λ x. whole x.0 x.1 x.2) (line-no words e) (λ x h. whole-no x.0 x.1 x.2 h)

attributes-no : (header : Header) (args : Args) (perm : ℕ) → IsNoManual args → OkIs (λ (request : Request). IsNoManual request.args) (with_attributes header args perm)
unfolding with_attributes
attributes-no header args perm h = anything (λ (request : Request). IsNoManual request.args) (attributes_of args perm header) (λ (attributes : Attributes). Ok (record { args = args; perm = perm; attributes = attributes })) (λ attributes. h)

pub asked-no : (header : Header) (words : List Text) → OkIs (λ (request : Request). IsNoManual request.args) (asked header words)
unfolding asked
asked-no header words = by (is_flag words)
  where
    by : (b : Bool) → OkIs (λ (request : Request). IsNoManual request.args) (if b then Err Reason.Flag else (for_reason Reason.Request (whole_request words) >>= λ read. with_attributes header read.0 read.1))
    by true = tt
    by false =
        bound (λ (x : Args × ℕ). IsNoManual x.0) (λ (request : Request). IsNoManual request.args) (for_reason Reason.Request (whole_request words)) (λ read. with_attributes header read.0 read.1)
        (reasoned (λ (x : Args × ℕ). IsNoManual x.0) Reason.Request (whole_request words) (request-no words))
        (λ read h. attributes-no header read.0 read.1 h)
