-- The generated files.
use Rattle.std.specs.Prelude.{ℕ, codes}
use Rattle.tm_word.specs.Prelude.{Text}
use Rattle.tm_gen.specs.declared.files.Generated.{Generated}
use Rattle.tm_gen.specs.Trace.{trace_text}

abbrev pub generated_profile : Text
generated_profile =
    codes "PROFILE_VERSION=20150505\n0-COMMENT=generated\n0-PREFERENCE={ max_audit_log=1024 max_learning_entry=200000 }\n0-CONFIG={ mode=learning grant_log=no reject_log=no }\n"

abbrev pub generated_exception : Text
generated_exception = codes "path_group TMP /tmp/\\$\ninitialize_domain /p0 from any\nacl_group 0 file read @TMP\n"

abbrev pub generated_domain : Text
generated_domain = codes "<kernel>\nuse_profile 0\nuse_group 0\n"

abbrev pub generated_manager : Text
generated_manager = codes "/usr/sbin/admin\n"

-- the files of so many trees, drawn from a seed
unfoldable pub generated : ℕ → ℕ → Generated
generated seed size =
    record { profile = generated_profile; exception = generated_exception; domain = generated_domain; manager = generated_manager; trace = trace_text seed size }
