-- A text with more than 2,048 resolved values (refusal 19), by computation. Assumes nothing.
use mathlib.Core.Path.{◌≡◌, refl}
use Rattle.token.specs.Words.{bytes_of}
use Rattle.grammar.specs.Grammar.{OS, APPMODE, TASK}
use Rattle.meaning.specs.Answers.{refused}
use Rattle.meaning.specs.Reading.{reading}
use Rattle.meaning.proofs.Everything.{everything}

n2080 : reading (bytes_of "OIL_VERSION=\"2.5\";IMPLEMENTATION m{TASK{STRING a=\"\";STRING b=\"\";STRING c=\"\";STRING d=\"\";STRING e=\"\";STRING f=\"\";STRING g=\"\";STRING h=\"\";STRING i=\"\";STRING j=\"\";STRING k=\"\";STRING l=\"\";STRING m=\"\";STRING n=\"\";STRING o=\"\";STRING p=\"\";STRING q=\"\";STRING r=\"\";STRING s=\"\";STRING t=\"\";STRING u=\"\";STRING v=\"\";STRING w=\"\";STRING x=\"\";STRING y=\"\";STRING z=\"\";STRING A=\"\";STRING B=\"\";STRING C=\"\";STRING D=\"\";STRING E=\"\";STRING F=\"\";STRING G=\"\";STRING H=\"\";STRING I=\"\";STRING J=\"\";STRING K=\"\";STRING L=\"\";STRING M=\"\";STRING N=\"\";};};CPU c{OS oo;APPMODE aa;TASK a;TASK b;TASK c;TASK d;TASK e;TASK f;TASK g;TASK h;TASK i;TASK j;TASK k;TASK l;TASK m;TASK n;TASK o;TASK p;TASK q;TASK r;TASK s;TASK t;TASK u;TASK v;TASK w;TASK x;TASK y;TASK z;TASK A;TASK B;TASK C;TASK D;TASK E;TASK F;TASK G;TASK H;TASK I;TASK J;TASK K;TASK L;TASK M;TASK N;TASK O;TASK P;TASK Q;TASK R;TASK S;TASK T;TASK U;TASK V;TASK W;TASK X;TASK Y;TASK Z;};") ≡ refused 19 0
unfolding everything
n2080 = refl
