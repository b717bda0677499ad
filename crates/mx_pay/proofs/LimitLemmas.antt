-- The constants of the code are the limits of the definitions.
use Rattle.std.proofs.Common.{◌≡◌, refl}
use Rattle.mx_pay.specs.declared.numbers.TheConstants.{MOST_AMOUNT, MOST_NUMBER}
use Rattle.mx_pay.specs.declared.log.TheConstants.{MOST_ENTRIES}
use Rattle.mx_pay.specs.declared.names.TheConstants.{MOST_NAME_BYTES}
use Rattle.mx_pay.specs.declared.token.TheConstants.{TOKEN_BYTES}
use Rattle.mx_pay.specs.Limits.{most_amount, most_number, most_entries, most_name_bytes, token_bytes}

pub amounts_agree : MOST_AMOUNT ≡ most_amount
amounts_agree = refl

pub numbers_agree : MOST_NUMBER ≡ most_number
numbers_agree = refl

pub entries_agree : MOST_ENTRIES ≡ most_entries
entries_agree = refl

pub name_bytes_agree : MOST_NAME_BYTES ≡ most_name_bytes
name_bytes_agree = refl

pub token_bytes_agree : TOKEN_BYTES ≡ token_bytes
token_bytes_agree = refl
