mod Loose
