-- Kinds of CodeView symbols (S_*). Those below 0x1100 are of older forms.
-- The numbers are SYM_ENUM_e of microsoft-pdb's cvinfo.h.
use Rattle.std.specs.Prelude.{ℕ, Bool, ◌||◌, ◌==◌}

-- padding between symbols: S_SKIP (0x0007), S_ALIGN (0x0402)
abbrev pub is_padding : ℕ → Bool
is_padding kind = kind == 0x0402 || kind == 0x0007

-- a public symbol: S_PUB32, S_PUB32_ST
abbrev pub is_public : ℕ → Bool
is_public kind = kind == 0x110e || kind == 0x1009

-- a procedure that other modules see: S_GPROC32 and its like
abbrev pub is_global : ℕ → Bool
is_global kind = kind == 0x1110 || kind == 0x100b || kind == 0x1147

-- a deferred procedure call: S_LPROC32_DPC, S_LPROC32_DPC_ID
abbrev pub is_dpc : ℕ → Bool
is_dpc kind = kind == 0x1155 || kind == 0x1156

-- a procedure: S_GPROC32, S_LPROC32 and their like
abbrev pub is_procedure : ℕ → Bool
is_procedure kind = is_global kind || is_dpc kind || kind == 0x110f || kind == 0x100a
    || kind == 0x1146

-- a thunk: S_THUNK32, S_THUNK32_ST
abbrev pub is_thunk : ℕ → Bool
is_thunk kind = kind == 0x1102 || kind == 0x0206

-- separated code of a procedure, which lies apart from it: S_SEPCODE
abbrev pub is_separated_code : ℕ → Bool
is_separated_code kind = kind == 0x1132

-- an inline site, which is an inlined call: S_INLINESITE, S_INLINESITE2
abbrev pub is_inline_site : ℕ → Bool
is_inline_site kind = kind == 0x114d || kind == 0x115d

-- a symbol with others inside it, up to the end that it names
abbrev pub starts_scope : ℕ → Bool
starts_scope kind = is_procedure kind || is_thunk kind || is_separated_code kind
    || is_inline_site kind

-- the end of such a symbol: S_END, S_INLINESITE_END, S_PROC_ID_END
abbrev pub ends_scope : ℕ → Bool
ends_scope kind = kind == 0x0006 || kind == 0x114e || kind == 0x114f

-- a symbol that has a form, which is read
abbrev pub has_form : ℕ → Bool
has_form kind = is_public kind || starts_scope kind || ends_scope kind
