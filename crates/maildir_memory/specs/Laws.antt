-- Proofs of laws of the trait `Machine`, for the machine of plain data.
use Rattle.std.proofs.Common.{inl, refl}
use Rattle.std.specs.Prelude.{Option, Some, None}
use Rattle.maildir_memory.specs.Plain.{held_by}
use Rattle.maildir_memory.specs.declared.plain_system.PlainSystem.{PlainSystem}

-- a power cut may leave the files as they are
pub held_may_stay : (maildir : Option PlainSystem) → (held_by maildir).may_leave (held_by maildir).files
held_may_stay None = refl
held_may_stay (Some system) = inl refl
