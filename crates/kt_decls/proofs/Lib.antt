mod Judged
