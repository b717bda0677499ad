-- What a step of a reader's records makes of the records that it has given.
use Rattle.std.proofs.Common.{◌≡◌, ◌≢◌, ◌<◌, ℕ, true, false, List, [], ◌∷◌, ◌++◌, length, Option, Some, None, Ok, refl, sym, ◌∙◌, ap, Bor, inl, inr}
use Rattle.csv.specs.Machine.{Read, next_record}
use Rattle.csv.specs.Reading.{ExplainsRead, FlexibleStep, NextIs, Reached, ReadRecord, ReadsNext, RowStep, default_config, source_of, strip_bom}
use Rattle.csv.specs.Records.{Row, fields_of}
use Rattle.csv.specs.declared.error.ErrorKind.{ErrorKind}
use Rattle.csv.specs.declared.error.ErrorKind.TheVariants as error
use Rattle.csv.specs.declared.parser.Config.{Config}
use Rattle.csv.specs.declared.parser.State.{State}
use Rattle.csv.specs.declared.parser.State.TheVariants as st
use Rattle.csv.specs.declared.reader.Reader.{Reader}
use Rattle.csv.specs.declared.reader.Trim.TheVariants as trim
use Rattle.csv.proofs.ReadFacts.{rows-end, rows-more}
use Rattle.mx_report.specs.declared.rolls.RollFaultKind.TheVariants.{NotRoll}
use Rattle.mx_report.specs.Roll.{Fields, roll_header}
use Rattle.mx_report.specs.Import.{HasNoHeader}
use Rattle.mx_report.specs.Reading.{HasGiven, Records, record_fault}

-- the bytes of a slice
abbrev pub bytes_left : Bor (List ℕ) → Option (List ℕ)
bytes_left s = Some s.now

module _ (text : List ℕ) (given : List Fields) (fields : Option ℕ) (a b : Records) (h : HasGiven text given fields a) where
  -- a record more was given
  pub given_more : (r : Row) → RowStep bytes_left a.rdr b.rdr b.left (Some (Ok r)) → FlexibleStep a.rdr b.rdr (Some (Ok r)) → HasGiven text (given ++ fields_of r ∷ []) (Some (length (fields_of r))) b
  given_more r step flexible =
      let read : ReadRecord bytes_left a.rdr b.rdr true (fields_of r) = step.0 in
      let more = rows-more bytes_left a.rdr b.rdr (fields_of r) default_config st.StartRecord (strip_bom text) h.rest given h.config h.source h.reached read in
      record {
        trim = read.3 ∙ h.trim;
        ready = inl step.1;
        left = step.2;
        config = read.2 ∙ h.config;
        strict = flexible ∙ h.strict;
        fields = (read.5 refl h.strict).1;
        rest = more.0;
        source = more.1;
        reached = more.2;
      }

  -- it has as many fields as the one before
  pub as_many : (n : ℕ) (r : Row) → fields ≡ Some n → RowStep bytes_left a.rdr b.rdr b.left (Some (Ok r)) → length (fields_of r) ≡ n
  as_many n r is step =
      let lengths = step.0.5 refl h.strict in
      let kept = rw (h.fields ∙ is) at lengths.0 in
      let same : Some (length (fields_of r)) ≡ Some n = sym lengths.1 ∙ kept in
      cc

  -- no record is left
  pub none_left : RowStep bytes_left a.rdr b.rdr b.left None → next_record default_config a.rdr.state [] [] h.rest ≡ None
  none_left read = rows-end bytes_left a.rdr b.rdr [] default_config h.rest h.config h.source read

-- the first record is another than the header
pub other_header : (text : List ℕ) (fs : Fields) (r : Records) → HasGiven text (fs ∷ []) (Some (length fs)) r → fs ≢ roll_header → HasNoHeader text 0
unfolding Reached
other_header text fs r h other = record {
  none = refl;
  other = λ p next is. let found = h.reached in let same : Some found.0 ≡ Some p = sym found.1 ∙ next in other (found.2 ∙ cc);
}

-- there is no first record
pub no_header : (text : List ℕ) (r : Records) (h : HasGiven text [] None r) → next_record default_config r.rdr.state [] [] h.rest ≡ None → HasNoHeader text 0
unfolding Reached
no_header text r h none = record {
  none = refl;
  other = λ p next is.
      let begun = h.reached in
      let nothing : next_record default_config st.StartRecord [] [] (strip_bom text) ≡ None = rw (begun.0, begun.1) none in
      cc;
}

-- a reader of a text has given nothing yet
pub started : (text : List ℕ) (rdr : Reader (Bor (List ℕ))) (r : Records) → r.rdr ≡ rdr → 0 < r.left → rdr.trim ≡ trim.None → rdr.has_headers ≡ false → rdr.headers ≡ None → rdr.config ≡ default_config → rdr.flexible ≡ false
    → rdr.expected ≡ None → source_of bytes_left rdr ≡ Some (strip_bom text) → rdr.state ≡ st.StartRecord → HasGiven text [] None r
unfolding Reached
started text rdr r is left trims headers none config strict expected source state = rw is (record {
  trim = trims;
  ready = inr (inr (headers, none));
  left = left;
  config = config;
  strict = strict;
  fields = expected;
  rest = strip_bom text;
  source = source;
  reached = (sym state, refl);
})

-- a read that took a record took the next one
next_is : (o : Option Read) (fields : Fields) (s : State) (z : List ℕ) → NextIs o true fields s z → (p : Read) × (o ≡ Some p) × (fields ≡ p.0)
next_is None fields s z n = cc
next_is (Some p) fields s z n = (p, refl, n.1)

took_next : (cfg : Config) (s s2 : State) (rest : List ℕ) (k : Option (List ℕ)) (fields : Fields) → ReadsNext cfg s (Some rest) k true fields s2 → (p : Read) × (next_record cfg s [] [] rest ≡ Some p) × (fields ≡ p.0)
took_next cfg s s2 rest None fields r = absurd r
took_next cfg s s2 rest (Some z) fields r = next_is _ fields s2 z r

-- a record that is refused for its number of fields is the next one, and odd
pub odd_next : (text : List ℕ) (given : List Fields) (a b : Records) (h : HasGiven text given (Some 4) a) (kind : ErrorKind) → ExplainsRead bytes_left a.rdr b.rdr false kind → record_fault kind ≡ NotRoll
    → (p : Read) × (next_record default_config a.rdr.state [] [] h.rest ≡ Some p) × (length p.0 ≢ 4)
odd_next text given a b h (error.UnequalLengths pos expected len) why is =
    let took = took_next default_config a.rdr.state b.rdr.state h.rest _ why.3 (rw (h.config, h.source) at why.4) in
    let four : Some expected ≡ Some 4 = sym why.1 ∙ h.fields in
    let size : length why.3 ≡ length took.0.0 = ap length took.2 in
    (took.0, took.1, λ count. why.2 (let e : expected ≡ 4 = cc in e ∙ sym count ∙ sym size ∙ why.5))
odd_next text given a b h (error.Io e) why is = cc
odd_next text given a b h (error.Utf8 pos e) why is = cc
odd_next text given a b h error.OutOfMemory why is = cc
odd_next text given a b h (error.Serialize e) why is = cc
odd_next text given a b h (error.Deserialize pos e) why is = cc
