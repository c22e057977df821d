-- What the text of section 5.2 means, written out, by computation. Assumes nothing.
use mathlib.Core.Path.{◌≡◌, refl}
use mathlib.Core.List.{List, [], ◌∷◌}
use mathlib.Core.Bool.{Bool, true, false}
use mathlib.Core.Option.{Option, none, some}
use Prim.Native.Nat.{ℕ}
use Prim.Native.String.{String}
use lib.ListN.{length}
use Rattle.token.specs.Words.{bytes_of}
use Rattle.grammar.specs.Grammar.{Class, ordinary, numeral, kind_word, type_word, integer_word, word, OS, APPMODE, TASK, ISR, COUNTER, ALARM, RESOURCE, EVENT, MESSAGE, UINT32, UINT64, STRING, BOOLEAN, ENUM, TRUE, FALSE}
use Rattle.meaning.specs.Syntax.{Word, Span, absent, AttributeType, integer, string, boolean, enum, reference, Bounds, no_bounds, one_of, Definition, no_more, define, no_value, value, Spec}
use Rattle.meaning.proofs.Everything.{everything}
use Rattle.standard.specs.Section.{standard, specs_of}

abbrev pub w : Class → String → ℕ → ℕ → Word
w c s n p = record { class = c; bytes = bytes_of s; number = record { negative = false; amount = n }; float = record { negative = false; amount = 0 }; place = p; length = length (bytes_of s) }

abbrev pub sp : ℕ → ℕ → Span
sp p n = record { place = p; length = n }

abbrev pub df : ℕ → AttributeType → Word → Bool → Span → Bounds → Word → Bool → Option Word → Definition
df r y t a g b n l d = record { row = r; type = y; word = t; auto = a; range = g; bounds = b; name = n; list = l; default = d }

abbrev pub written : List Spec
written =
    record {
      kind = OS;
      word = (w (kind_word OS) "OS" 0 47);
      definitions =
          define (df 0 enum (w (word ENUM) "ENUM" 0 52) false (sp 57 20) no_bounds (w ordinary "STATUS" 0 78) false none) (value (w ordinary "STANDARD" 0 58) 0 no_more (value (w ordinary "EXTENDED" 0 68) 1 no_more no_value)) (
          define (df 1 boolean (w (word BOOLEAN) "BOOLEAN" 0 86) false absent no_bounds (w ordinary "STARTUPHOOK" 0 94) false none) no_value (
          define (df 2 boolean (w (word BOOLEAN) "BOOLEAN" 0 107) false absent no_bounds (w ordinary "ERRORHOOK" 0 115) false none) no_value (
          define (df 3 boolean (w (word BOOLEAN) "BOOLEAN" 0 126) false absent no_bounds (w ordinary "SHUTDOWNHOOK" 0 134) false none) no_value (
          define (df 4 boolean (w (word BOOLEAN) "BOOLEAN" 0 148) false absent no_bounds (w ordinary "PRETASKHOOK" 0 156) false none) no_value (
          define (df 5 boolean (w (word BOOLEAN) "BOOLEAN" 0 169) false absent no_bounds (w ordinary "POSTTASKHOOK" 0 177) false none) no_value (
          define (df 6 boolean (w (word BOOLEAN) "BOOLEAN" 0 191) false absent no_bounds (w ordinary "USEGETSERVICEID" 0 199) false none) no_value (
          define (df 7 boolean (w (word BOOLEAN) "BOOLEAN" 0 216) false absent no_bounds (w ordinary "USEPARAMETERACCESS" 0 224) false none) no_value (
          define (df 8 boolean (w (word BOOLEAN) "BOOLEAN" 0 244) false absent no_bounds (w ordinary "USERESSCHEDULER" 0 252) false (some (w (word TRUE) "TRUE" 0 270))) no_value (
          no_more)))))))));
    } ∷
    record {
      kind = APPMODE;
      word = (w (kind_word APPMODE) "APPMODE" 0 279);
      definitions =
          no_more;
    } ∷
    record {
      kind = TASK;
      word = (w (kind_word TASK) "TASK" 0 292);
      definitions =
          define (df 10 boolean (w (word BOOLEAN) "BOOLEAN" 0 299) false (sp 307 43) no_bounds (w ordinary "AUTOSTART" 0 351) false none) (value (w (word TRUE) "TRUE" 0 309) 0 (define (df 9 (reference APPMODE) (w (type_word APPMODE) "APPMODE_TYPE" 0 316) false absent no_bounds (w (kind_word APPMODE) "APPMODE" 0 329) true none) no_value no_more) (value (w (word FALSE) "FALSE" 0 343) 0 no_more no_value)) (
          define (df 11 (integer UINT32) (w (integer_word UINT32) "UINT32" 0 362) false absent no_bounds (w ordinary "PRIORITY" 0 369) false none) no_value (
          define (df 12 (integer UINT32) (w (integer_word UINT32) "UINT32" 0 379) false absent no_bounds (w ordinary "ACTIVATION" 0 386) false none) no_value (
          define (df 13 enum (w (word ENUM) "ENUM" 0 398) false (sp 403 11) no_bounds (w ordinary "SCHEDULE" 0 415) false none) (value (w ordinary "NON" 0 404) 2 no_more (value (w ordinary "FULL" 0 409) 3 no_more no_value)) (
          define (df 14 (reference EVENT) (w (type_word EVENT) "EVENT_TYPE" 0 425) false absent no_bounds (w (kind_word EVENT) "EVENT" 0 436) true none) no_value (
          define (df 15 (reference RESOURCE) (w (type_word RESOURCE) "RESOURCE_TYPE" 0 445) false absent no_bounds (w (kind_word RESOURCE) "RESOURCE" 0 459) true none) no_value (
          define (df 16 (reference MESSAGE) (w (type_word MESSAGE) "MESSAGE_TYPE" 0 471) false absent no_bounds (w (kind_word MESSAGE) "MESSAGE" 0 484) true none) no_value (
          no_more)))))));
    } ∷
    record {
      kind = ISR;
      word = (w (kind_word ISR) "ISR" 0 498);
      definitions =
          define (df 17 (integer UINT32) (w (integer_word UINT32) "UINT32" 0 504) false (sp 511 6) (one_of ((w numeral "1" 1 512) ∷ (w numeral "2" 2 515) ∷ [])) (w ordinary "CATEGORY" 0 518) false none) no_value (
          define (df 18 (reference RESOURCE) (w (type_word RESOURCE) "RESOURCE_TYPE" 0 528) false absent no_bounds (w (kind_word RESOURCE) "RESOURCE" 0 542) true none) no_value (
          define (df 19 (reference MESSAGE) (w (type_word MESSAGE) "MESSAGE_TYPE" 0 554) false absent no_bounds (w (kind_word MESSAGE) "MESSAGE" 0 567) true none) no_value (
          no_more)));
    } ∷
    record {
      kind = COUNTER;
      word = (w (kind_word COUNTER) "COUNTER" 0 581);
      definitions =
          define (df 20 (integer UINT32) (w (integer_word UINT32) "UINT32" 0 591) false absent no_bounds (w ordinary "MINCYCLE" 0 598) false none) no_value (
          define (df 21 (integer UINT32) (w (integer_word UINT32) "UINT32" 0 608) false absent no_bounds (w ordinary "MAXALLOWEDVALUE" 0 615) false none) no_value (
          define (df 22 (integer UINT32) (w (integer_word UINT32) "UINT32" 0 632) false absent no_bounds (w ordinary "TICKSPERBASE" 0 639) false none) no_value (
          no_more)));
    } ∷
    record {
      kind = ALARM;
      word = (w (kind_word ALARM) "ALARM" 0 656);
      definitions =
          define (df 23 (reference COUNTER) (w (type_word COUNTER) "COUNTER_TYPE" 0 664) false absent no_bounds (w (kind_word COUNTER) "COUNTER" 0 677) false none) no_value (
          define (df 28 enum (w (word ENUM) "ENUM" 0 686) false (sp 691 129) no_bounds (w ordinary "ACTION" 0 821) false none) (value (w ordinary "ACTIVATETASK" 0 693) 4 (define (df 24 (reference TASK) (w (type_word TASK) "TASK_TYPE" 0 708) false absent no_bounds (w (kind_word TASK) "TASK" 0 718) false none) no_value no_more) (value (w ordinary "SETEVENT" 0 727) 5 (define (df 25 (reference TASK) (w (type_word TASK) "TASK_TYPE" 0 738) false absent no_bounds (w (kind_word TASK) "TASK" 0 748) false none) no_value (define (df 26 (reference EVENT) (w (type_word EVENT) "EVENT_TYPE" 0 754) false absent no_bounds (w (kind_word EVENT) "EVENT" 0 765) false none) no_value no_more)) (value (w ordinary "ALARMCALLBACK" 0 775) 6 (define (df 27 string (w (word STRING) "STRING" 0 791) false absent no_bounds (w ordinary "ALARMCALLBACKNAME" 0 798) false none) no_value no_more) no_value))) (
          define (df 32 boolean (w (word BOOLEAN) "BOOLEAN" 0 829) false (sp 837 79) no_bounds (w ordinary "AUTOSTART" 0 917) false none) (value (w (word TRUE) "TRUE" 0 839) 0 (define (df 29 (integer UINT32) (w (integer_word UINT32) "UINT32" 0 846) false absent no_bounds (w ordinary "ALARMTIME" 0 853) false none) no_value (define (df 30 (integer UINT32) (w (integer_word UINT32) "UINT32" 0 864) false absent no_bounds (w ordinary "CYCLETIME" 0 871) false none) no_value (define (df 31 (reference APPMODE) (w (type_word APPMODE) "APPMODE_TYPE" 0 882) false absent no_bounds (w (kind_word APPMODE) "APPMODE" 0 895) true none) no_value no_more))) (value (w (word FALSE) "FALSE" 0 909) 0 no_more no_value)) (
          no_more)));
    } ∷
    record {
      kind = EVENT;
      word = (w (kind_word EVENT) "EVENT" 0 931);
      definitions =
          define (df 33 (integer UINT64) (w (integer_word UINT64) "UINT64" 0 939) true absent no_bounds (w ordinary "MASK" 0 956) false none) no_value (
          no_more);
    } ∷
    record {
      kind = RESOURCE;
      word = (w (kind_word RESOURCE) "RESOURCE" 0 965);
      definitions =
          define (df 35 enum (w (word ENUM) "ENUM" 0 976) false (sp 981 64) no_bounds (w ordinary "RESOURCEPROPERTY" 0 1046) false none) (value (w ordinary "STANDARD" 0 983) 7 no_more (value (w ordinary "LINKED" 0 993) 8 (define (df 34 (reference RESOURCE) (w (type_word RESOURCE) "RESOURCE_TYPE" 0 1002) false absent no_bounds (w ordinary "LINKEDRESOURCE" 0 1016) false none) no_value no_more) (value (w ordinary "INTERNAL" 0 1035) 9 no_more no_value))) (
          no_more);
    } ∷
    []

pub is_standard : standard ≡ written
unfolding everything standard specs_of
is_standard = refl
