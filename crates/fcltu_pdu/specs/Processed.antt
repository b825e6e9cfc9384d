-- The last CLTUs that a provider took to radiate and that it radiated (CCSDS 912.1-B, annex A).
use Rattle.std.proofs.Common.{ℕ, ℤ, Option, [], ◌∷◌, refl}
use Rattle.ber_shape.specs.Element.{Element}
use Rattle.ber_shape.specs.Members.{Members, structured, last, ◌▸◌}
use Rattle.ber_shape.specs.Same.{members_as}
use Rattle.ber_shape.specs.Choice.{optional}
use Rattle.cds_time.specs.declared.cds.Cds.{Cds}
use Rattle.sle_common.specs.Numbers.{number}
use Rattle.sle_common.specs.Time.{time, conditional_time}
use Rattle.fcltu_pdu.specs.UnsignedLong.{unsigned_long}

-- its identification, when its radiation started, and its status
abbrev pub Processed : Type 0
Processed = ℕ × Option Cds × ℤ

abbrev pub processed_fields : Members Processed
processed_fields = members_as (unsigned_long ▸ conditional_time ▸ last number) (record {
  to = λ p. (p.0, p.1.0, p.1.1);
  from = λ q. (q.0, (q.1, q.2));
  there = λ q. refl;
  back = λ p. refl;
})

-- [0] NULL none, [1] SEQUENCE
abbrev pub last_processed : Element (Option Processed)
last_processed = optional (0xa1 ∷ []) (structured (0xa1 ∷ []) processed_fields refl) refl refl

-- its identification, and when its radiation stopped
abbrev pub ok_fields : Members (ℕ × Cds)
ok_fields = unsigned_long ▸ last time

-- [0] NULL none, [1] SEQUENCE
abbrev pub last_ok : Element (Option (ℕ × Cds))
last_ok = optional (0xa1 ∷ []) (structured (0xa1 ∷ []) ok_fields refl) refl refl
